use Rattle.std.proofs.Common.{◌≡◌, ◌≤◌, length, drop, ap, ◌∙◌, arith, rules}
use Rattle.std.proofs.lemmas.List.{length-drop, take_all}
use Rattle.aes.specs.Cipher.{encrypt}
use Rattle.siv.proofs.Halves.expand.Goals as goal

pub returns-clause-second : goal.returns-clause-second
returns-clause-second c =
    let key = c.args.key in
    let h : length c.args.key ≡ 32 = search rules in
    let half : length (drop 16 c.args.key) ≤ 16 = omega (arith, h, length-drop 16 c.args.key) in
    c.expand-2.ensures.cipher ∙ ap encrypt (c.part_of-2.ensures ∙ take_all 16 (drop 16 key) half)
