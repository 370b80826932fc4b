use Rattle.std.proofs.Common.{◌≤◌, [], ◌∷◌, length, drop, ◌∙◌, arith}
use Rattle.std.proofs.lemmas.List.{length-drop, take_all}
use Rattle.wrap_rules.specs.Siv.{decrypted_text}
use Rattle.siv.proofs.SivWrap.open_from.Goals as goal

pub returns-clause-answer : goal.returns-clause-answer
returns-clause-answer c =
    let z = c.args.bytes.now in
    let all : length (drop 16 c.args.bytes.now) ≤ 32 = omega (arith, length-drop 16 c.args.bytes.now) in
    let ciphertext = c.part_of-ciphertext.ensures ∙ take_all 32 (drop 16 z) all in
    c.open.ensures
    ∙ (λ i. decrypted_text (c.expand.ensures.first i) (c.expand.ensures.second i) (c.args.name ∷ []) (c.part_of-v.ensures i) (ciphertext i))
