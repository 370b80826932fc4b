use Rattle.std.proofs.Common.{◌≡◌, drop, vec_items}
use Rattle.wraptool.specs.Digits.{decoded_bytes}
use Rattle.wraptool.proofs.Decoding.{bytes_and_rest, bytes_of_pairs}
use Rattle.wraptool.proofs.hex.decode.Given as goal

abbrev pub invariant-loop-high : goal.invariant-loop-high
invariant-loop-high l = bytes_and_rest (vec_items l.out) (bytes_of_pairs (drop l.high-index l.pairs)) ≡ decoded_bytes l.text
