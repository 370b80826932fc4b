-- The star plan is lawful for every row.
use Rattle.std.proofs.Common.{◌≡◌, ℕ, true, List, refl, inl, arith}
use Rattle.std.proofs.lemmas.Bool.{false≢true}
use Rattle.tree.specs.declared.types.Code.{Code}
use Rattle.tree.specs.declared.types.Opener.{Opener}
use Rattle.tree.specs.declared.types.Opener.TheVariants.{Present, Former}
use Rattle.tree.specs.Rows.{is_occupied}
use Rattle.tree.specs.Plans.{MayOpen, IsLawfulPlan}
use Rattle.tree.proofs.Standing.{changed_inner}
use Rattle.strategy_rules.specs.Rules.{star_rule, plan}
use Rattle.strategy_rules.proofs.Widths.{leaf_under, under_from, leaves_fit}
use Rattle.strategy_rules.proofs.Planned.{candidates_kept, present_in, lawful}

module _ (row : List Code) where
  -- whatever serves a node may open it
  opens : (n : ℕ) (o : Opener) → star_rule row n o ≡ true → MayOpen row n o
  opens n (Former o) e = absurd (false≢true e)
  opens n (Present o) e = let s = leaf_under (is_occupied row) n o e in (s.passes, s.under)

  -- whatever the row, this rule makes a lawful plan
  pub star_lawful : IsLawfulPlan row (plan star_rule row)
  star_lawful = lawful star_rule row (record {
    opens = λ n o i e. opens n o e;
    known = λ n u c l b e.
        let serves = under_from (is_occupied row) n u (changed_inner row n c).0 (record { leaf = l; under = b; passes = e }) in
        (Present u, (present_in n u (omega arith) l.1, (serves, inl refl)));
    few = λ n i.
        let fit = leaves_fit (is_occupied row) n (λ o. star_rule row n (Present o)) i (leaf_under (is_occupied row) n) in
        omega (arith, candidates_kept (star_rule row n) n, fit);
  })
