-- An ample publishing is done whenever something is noted; and there are ample ones.
use Rattle.std.proofs.Common.{◌≡◌, ℕ, ◌+◌, ◌<◌, ◌≤◌, Bool, true, not, cond, List, [], ◌∷◌, filter, length, Ok}
use Rattle.std.proofs.Common.{refl, ap, ◌∙◌, inl, inr, lit<, arith}
use Rattle.std.proofs.lemmas.Bool.{le-ltb, lt-leb}
use Rattle.std.proofs.lemmas.List.{length-append, length-map, length-replicate}
use Rattle.std.proofs.lemmas.List.Filters.{length-filter_both}
use Rattle.std.proofs.lemmas.Nat.{mul-le}
use Rattle.byte_strings.proofs.Parts.{replicate_bytes}
use Rattle.refusal.specs.Refusals.{refusal}
use Rattle.tree.specs.declared.types.Code.{Code}
use Rattle.tree.specs.declared.types.Opener.TheVariants.{Present}
use Rattle.tree.specs.Tree.{tree_leaves, inner_nodes}
use Rattle.tree.specs.Rows.{code_at, is_changed, changed_nodes}
use Rattle.tree.specs.Plans.{pair, IsLawfulStrategy}
use Rattle.tree.proofs.Members.{In, contains_in}
use Rattle.strategy_rules.specs.Rules.{Rule, plan}
use Rattle.strategy_rules.proofs.StarLaw.{star_lawful}
use Rattle.strategy_rules.proofs.UserLaw.{user_oriented_lawful}
use Rattle.strategy_rules.proofs.KeyLaw.{key_oriented_lawful}
use Rattle.server_rules.specs.declared.state.State.{State}
use Rattle.server_rules.specs.States.{row, has_notes}
use Rattle.cradles.specs.Draws.{is_arrival_code, arrival_leaves, drawn_size}
use Rattle.server_rules.specs.Calls.{Publishing}
use Rattle.wrap.specs.Meaning.{WrapMeaning, IsLawfulWrap}
use Rattle.server_rules.specs.Publishings.{publishing_plan, publishing_size, publishing_report, due_verdict, lent_verdict, publish_plan_verdict}
use Rattle.server_rules.specs.Publishings.{publish_file_verdict, publish_verdict}
use Rattle.std.specs.Result.{result_and}
use Rattle.server_rules.specs.Sound.{IsSoundServer}
use Rattle.law.specs.Runs.{site_of}
use Rattle.law.proofs.EveryRun.{every_run}
use Rattle.statements.specs.Ample.{IsAmple, IsAmpleBy, three_rules, zero_publishing, AmpleExamplesHold}
use Rattle.cradles.proofs.Gathering.{leaves_count, inners_count}

-- a filter keeps no more than there are
kept_few : (f : ℕ → Bool) (xs : List ℕ) → length (filter f xs) ≤ length xs
kept_few f xs = omega (arith, length-filter_both f (λ x. not (f x)) (λ x. refl) xs)

-- no more than the 127 inner nodes change at once
few_changes : (r : List Code) → length (changed_nodes r) ≤ 127
unfolding changed_nodes
few_changes r = omega (arith, kept_few (is_changed r) inner_nodes, inners_count)

-- no more than 128 arrive at once
few_arrivals : (r : List Code) → length (arrival_leaves r) ≤ 128
unfolding arrival_leaves
few_arrivals r = omega (arith, kept_few (λ u. is_arrival_code (code_at r u)) tree_leaves, leaves_count)

-- no change draws more than 8160 bytes
few_drawn : (r : List Code) → drawn_size r ≤ 8160
few_drawn r = omega (arith, length-append (arrival_leaves r) (changed_nodes r), few_arrivals r, few_changes r)

-- what is lent is enough where it is enough for this change
module _ (s : State) (p : Publishing) (some : has_notes s ≡ true) (early : s.epoch < 1000000) (work : 512 ≤ length p.work)
    (material : drawn_size (row s) ≤ length p.material) (pairs : length (publishing_plan s p) ≤ length p.pairs) where
  -- a publishing is due: something is noted, and an epoch is left
  due_passes : due_verdict s ≡ Ok tt
  due_passes = rw some (rw (lt-leb 1000000 s.epoch early) refl)

  -- what is lent passes its checks
  lent_passes : lent_verdict s p ≡ Ok tt
  lent_passes =
      rw (le-ltb (length p.work) 512 work)
      (rw (le-ltb (length p.material) (drawn_size (row s)) material) (rw (le-ltb (length p.pairs) (length (publishing_plan s p)) pairs) refl))

  -- all checks before that of the file's room pass
  pub plan_passes : publish_plan_verdict s p ≡ Ok tt
  plan_passes = ap (λ v. result_and v (lent_verdict s p)) due_passes ∙ lent_passes

  -- with room for the file, the publishing is accepted and reported
  pub publish_passes : publishing_size s p ≤ length p.file → publish_verdict s p ≡ Ok (publishing_report s p)
  publish_passes room =
      ap (λ v. result_and v (publish_file_verdict s p)) plan_passes
      ∙ ap (λ b. cond b (refusal 12 (publishing_size s p ∷ [])) (Ok (publishing_report s p))) (le-ltb (length p.file) (publishing_size s p) room)

module _ (s : State) (sound : IsSoundServer s) (some : has_notes s ≡ true) (early : s.epoch < 1000000) (p : Publishing) (a : IsAmple p) where
  -- the plan has no more than 896 pairs
  few_pairs : length (publishing_plan s p) ≤ 896
  few_pairs = (a.given.0 (row s) (length-map s.cradles _ ∙ sound.cradle_count)).few

  -- the file has no more than 62857 bytes
  pub few_bytes : publishing_size s p ≤ 62857
  few_bytes =
      let wide : 6 + p.wrap.length ≤ 70 = omega (arith, a.given.1.0.length_range.1) in
      omega (arith, few_changes (row s), mul-le (length (publishing_plan s p)) (6 + p.wrap.length) 896 70 few_pairs wide)

  -- an ample publishing passes all checks before that of the file's room
  pub ample_plans : publish_plan_verdict s p ≡ Ok tt
  ample_plans = plan_passes s p some early a.work (omega (arith, few_drawn (row s), a.material)) (omega (arith, few_pairs, a.pairs))

  -- an ample publishing is accepted and reported
  pub ample_publishes : publish_verdict s p ≡ Ok (publishing_report s p)
  ample_publishes =
      publish_passes s p some early a.work (omega (arith, few_drawn (row s), a.material)) (omega (arith, few_pairs, a.pairs))
      (omega (arith, few_bytes, a.file))

-- each of the three strategies is lawful
pub three_lawful : (rule : Rule) → In rule three_rules → IsLawfulStrategy (plan rule)
three_lawful rule (inl e) codes long = rw e (star_lawful codes)
three_lawful rule (inr (inl e)) codes long = rw e (user_oriented_lawful codes)
three_lawful rule (inr (inr (inl e))) codes long = rw e (key_oriented_lawful codes)
three_lawful rule (inr (inr (inr other))) codes long = absurd other

-- a publishing that is lent zeros, just enough of each thing, is ample
zeros_ample : (rule : Rule) (w : WrapMeaning) → In rule three_rules → IsLawfulWrap w → IsAmpleBy rule w.length (zero_publishing rule w)
zeros_ample rule w i lawful = record {
  ample = record {
    given = (three_lawful rule i, (lawful, replicate_bytes 8160 0 (lit< tt)));
    work = omega (arith, length-replicate {A = ℕ} 512 0);
    material = omega (arith, length-replicate {A = ℕ} 8160 0);
    pairs = omega (arith, length-replicate 896 (pair (Present 0) 0));
    file = omega (arith, length-replicate {A = ℕ} 62857 0);
  };
  strategy = refl;
  wrap_length = refl;
}

-- an ample publishing is enough, and there are such publishings
pub ample_examples : AmpleExamplesHold
ample_examples = record {
  enough = λ calls p given a some early. ample_publishes (site_of calls).server (every_run calls given).sound some early p a;
  any_ample = λ rule w i lawful. zeros_ample rule w (contains_in three_rules rule i) lawful;
}
