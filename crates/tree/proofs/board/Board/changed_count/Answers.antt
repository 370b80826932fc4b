use Rattle.std.proofs.Common.{◌≡◌, ℕ, Bool, cond, length, filter, reverse, sym, ◌∙◌, refl, rules}
use Rattle.std.specs.List.{range_with_len}
use Rattle.std.proofs.lemmas.List.Sums.{length-filter}
use Rattle.std.proofs.lemmas.List.Sorted.{IsPermutation-reverse, sum_by-IsPermutation}
use Rattle.std.proofs.lemmas.Iterator.{YieldsList-from_range}
use Rattle.std.proofs.lemmas.Iterator.Consumers.{YieldsList-at, YieldsList-from_filter, count_from_yields_List}
use Rattle.tree.specs.Tree.{inner_nodes}
use Rattle.tree.specs.Rows.{is_changed, changed_nodes}
use Rattle.tree.proofs.board.Board.changed_count.Goals as goal

-- as many pass of the inner nodes rising as of them falling
rising : (test : ℕ → Bool) → length (filter test (range_with_len 1 127)) ≡ length (filter test inner_nodes)
unfolding inner_nodes
rising test =
    let xs = range_with_len 1 127 in
    length-filter test xs
    ∙ sym (sum_by-IsPermutation (λ n. cond (test n) 1 0) xs (reverse xs) (IsPermutation-reverse xs))
    ∙ sym (length-filter test (reverse xs))

pub returns : goal.returns
unfolding changed_nodes
returns c =
    let test = is_changed c.args.self.now in
    let nodes = YieldsList-at c.filter.ensures.source (YieldsList-from_range 1 128 127 refl refl) in
    count_from_yields_List c.filter.result _ c.count.ensures.ran
    (YieldsList-from_filter _ test nodes c.filter.ensures.closure (λ x b q k. search rules))
    ∙ rising test
