use Rattle.std.proofs.Common.{◌≡◌, ◌+◌, ◌*◌, ◌<◌, ◌≤◌, length, take, ap, ◌∙◌, arith, rules}
use Rattle.aes.proofs.Words.{expanded_none, word_more}
use Rattle.aes.proofs.expand_words.Goals as goal

pub loop-i-init : goal.loop-i-init
loop-i-init c = expanded_none c.args.nk c.args.w.now

pub loop-i-preserved : goal.loop-i-preserved
loop-i-preserved c =
    let long : length c.next_word-next.result ≡ 4 = search rules in
    let some : 0 < c.args.nk = omega arith in
    let past : c.args.nk ≤ c.loop-i.i = omega arith in
    let room : 4 * c.loop-i.i + 4 ≤ length c.loop-i.w = omega arith in
    ap (take (4 * (c.loop-i.i + 1))) c.put.ensures
    ∙ word_more c.args.nk c.loop-i.i c.loop-i.w (take (4 * c.args.nk) c.args.w.now) c.next_word-next.result
    some past room long c.loop-i.invariant c.next_word-next.ensures
