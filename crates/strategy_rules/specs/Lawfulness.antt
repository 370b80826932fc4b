-- The plans of the three strategies are lawful for every row.
use Rattle.std.specs.Prelude.{List}
use Rattle.tree.specs.declared.types.Code.{Code}
use Rattle.tree.specs.Plans.{IsLawfulPlan}
use Rattle.strategy_rules.specs.Rules.{Rule, plan}
use Rattle.strategy_rules.specs.Rules.{star_rule, user_oriented_rule, key_oriented_rule}

-- the plan by the rule is lawful, whatever the row; so the rule makes a strategy
abbrev pub IsLawfulRule : Rule → Type 0
IsLawfulRule rule = (row : List Code) → IsLawfulPlan row (plan rule row)

-- each of the three rules makes a strategy
pub record PlansAreLawful : Type 0 where
  pub star_lawful : IsLawfulRule star_rule
  pub user_oriented_lawful : IsLawfulRule user_oriented_rule
  pub key_oriented_lawful : IsLawfulRule key_oriented_rule
