use Rattle.std.proofs.Common.{◌≡◌, ◌+◌, ◌*◌, ◌/◌, length, drop, vec_items, Some, None, sym, ap, ◌∙◌, arith}
use Rattle.std.proofs.lemmas.Bool.Decides.{nat_tests}
use Rattle.std.proofs.lemmas.Result.{err_from_is_err_and}
use Rattle.wraptool.proofs.Decoding.{bytes_and_rest, after_none, after_more, after_all, stopped, bytes_of_pairs, in_pairs}
use Rattle.wraptool.proofs.hex.decode.Goals as goal

pub loop-high-init : goal.loop-high-init
loop-high-init c =
    let whole : length c.args.text.now ≡ length c.args.text.now / 2 * 2 = grind (arith, nat_tests) in
    ap (λ xs. bytes_and_rest xs (bytes_of_pairs c.as_chunks.result.0.now)) c.new-out.ensures.items
    ∙ after_none (bytes_of_pairs c.as_chunks.result.0.now)
    ∙ ap bytes_of_pairs c.as_chunks.ensures.front
    ∙ in_pairs (length c.args.text.now / 2) c.args.text.now whole

pub returns-in_err-byte : goal.returns-in_err-byte
returns-in_err-byte c =
    let none : c.pair.result ≡ None = grind arith in
    let none_here = sym none ∙ c.pair.ensures in
    let e = stopped c.args.text.now (vec_items c.loop-high.out) c.as_chunks.result.0.now c.loop-high.high-index
    c.loop-high.invariant c.loop-high-test.true none_here in
    let p = err_from_is_err_and c.from_residual.result c.from_residual.ensures.1 in
    rw (p.1, p.2) (grind (arith, nat_tests))

pub loop-high-preserved : goal.loop-high-preserved
loop-high-preserved c =
    let some : c.pair.result ≡ Some c.in_ok-byte.byte = grind arith in
    ap (λ xs. bytes_and_rest xs (bytes_of_pairs (drop (c.loop-high.high-index + 1) c.as_chunks.result.0.now))) c.in_ok-push.ensures.items
    ∙ after_more c.args.text.now (vec_items c.loop-high.out) c.as_chunks.result.0.now c.loop-high.high-index
    c.loop-high.invariant c.in_ok-byte.byte c.loop-high-test.true (sym some ∙ c.pair.ensures)

pub returns : goal.returns
returns c = after_all c.args.text.now (vec_items c.loop-high.out) c.as_chunks.result.0.now c.loop-high.high-index c.loop-high.invariant c.loop-high-test.false
