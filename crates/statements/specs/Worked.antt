-- All worked examples together.
use Rattle.field.specs.Laws.{BoxExamplesHold}
use Rattle.statements.specs.Ample.{AmpleExamplesHold}
use Rattle.statements.specs.Examples.{ChangeExamplesHold}
use Rattle.statements.specs.Servers.{ServerExamplesHold}
use Rattle.statements.specs.Run.{RunExamplesHold}

-- each example is one of the definitions themselves
pub record WorkedExamplesHold : Type 0 where
  pub boxes : BoxExamplesHold
  pub ample : AmpleExamplesHold
  pub plans : ChangeExamplesHold
  pub servers : ServerExamplesHold
  pub run : RunExamplesHold
