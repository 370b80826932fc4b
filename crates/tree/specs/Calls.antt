-- The call of a strategy: its check, and what it leaves in the pair buffer.
use Rattle.std.specs.Prelude.{ℕ, if◌then◌else◌, List, [], ◌∷◌, ◌++◌, length, drop, Ok, nat_lt}
use Rattle.refusal.specs.Refusals.{Refusal, Verdict, refusal_with, refusal, new_or_old}
use Rattle.tree.specs.declared.types.PlanFault.{PlanFault}
use Rattle.tree.specs.declared.types.PlanFault.TheVariants.{ShortPairs}
use Rattle.tree.specs.declared.types.Pair.{Pair}

-- the number of a refusal, 11, and the value with it: the pairs that are needed
abbrev pub plan_refusal : PlanFault → Refusal
plan_refusal (ShortPairs needed) = refusal_with 11 (needed ∷ [])

-- the number of pairs, or that the buffer has no room for them
abbrev pub strategy_verdict : List Pair → List Pair → Verdict ℕ
strategy_verdict plan buffer =
    if nat_lt (length buffer) (length plan) then refusal 11 (length plan ∷ []) else Ok (length plan)

-- the plan at the front of the buffer, the rest as it was; or the whole buffer as it was
abbrev pub pairs_after_plan : List Pair → List Pair → List Pair
pairs_after_plan plan buffer =
    new_or_old (strategy_verdict plan buffer) (plan ++ drop (length plan) buffer) buffer
