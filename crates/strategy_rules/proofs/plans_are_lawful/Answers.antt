use Rattle.strategy_rules.proofs.plans_are_lawful.Goals as goal
use Rattle.strategy_rules.proofs.StarLaw.{star_lawful}
use Rattle.strategy_rules.proofs.UserLaw.{user_oriented_lawful}
use Rattle.strategy_rules.proofs.KeyLaw.{key_oriented_lawful}

pub returns : goal.returns
returns c = record { star_lawful = star_lawful; user_oriented_lawful = user_oriented_lawful; key_oriented_lawful = key_oriented_lawful }
