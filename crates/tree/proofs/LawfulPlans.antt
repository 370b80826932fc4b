-- The laws of a lawful plan over `In`, for proofs that go over a plan pair by pair.
use Rattle.std.proofs.Common.{◌≡◌, ℕ, true, List}
use Rattle.tree.specs.declared.types.Code.{Code}
use Rattle.tree.specs.declared.types.Opener.{Opener}
use Rattle.tree.specs.declared.types.Pair.{Pair}
use Rattle.tree.specs.Tree.{IsLeaf, IsBeneath}
use Rattle.tree.specs.Rows.{is_changed, is_occupied}
use Rattle.tree.specs.Plans.{pair, MayOpen, IsKnownAt, IsLawfulPlan}
use Rattle.tree.proofs.Members.{In, in_contains, contains_in}

module _ {row : List Code} {plan : List Pair} (lawful : IsLawfulPlan row plan) where
  -- the content of each pair is a node that gets a new key
  pub plan_content : (p : Pair) → In p plan → is_changed row p.content ≡ true
  plan_content p i = lawful.contents p (in_contains plan p i)

  -- the opener of each pair may open its content
  pub plan_opener : (p : Pair) → In p plan → MayOpen row p.content p.opener
  plan_opener p i = lawful.openers p (in_contains plan p i)

  -- each occupied leaf beneath a changed node knows an opener of that node's new key
  pub plan_served : (n u : ℕ) → is_changed row n ≡ true → IsLeaf u → IsBeneath u n → is_occupied row u ≡ true
      → (o : Opener) × (In (pair o n) plan × IsKnownAt row n u o)
  plan_served n u c l b e = let s = lawful.served n u c l b e in (s.0, (contains_in plan (pair s.0 n) s.1.0, s.1.1))
