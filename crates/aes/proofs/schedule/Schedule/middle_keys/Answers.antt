use Rattle.std.proofs.Common.{◌≡◌, ℕ, ◌-◌, ◌*◌, ◌/◌, List, length, take, drop, ap, ◌∙◌, arith}
use Rattle.std.proofs.lemmas.List.{length-take, length-drop}
use Rattle.std.specs.Simd.{first_chunks}
use Rattle.byte_strings.proofs.Chunks.{chunks_front}
use Rattle.aes.proofs.schedule.Schedule.middle_keys.Goals as goal

pub returns : goal.returns
returns c =
    let n : ℕ = c.args.self.rounds in
    let w : List ℕ = c.args.self.bytes.now in
    let x : List ℕ = take (16 * n - 16) (drop 16 w) in
    let long : length x / 16 ≡ n - 1 = omega (arith, length-take (16 * n - 16) (drop 16 w), length-drop 16 w) in
    c.as_chunks.ensures.front
    ∙ ap (λ (k : ℕ). first_chunks 16 k x) long
    ∙ chunks_front 16 (n - 1) (16 * n - 16) (drop 16 w) (omega arith)
