-- All worked examples.
use Rattle.field.proofs.Boxes.{box_examples}
use Rattle.statements.specs.Worked.{WorkedExamplesHold}
use Rattle.statements.proofs.Ample.{ample_examples}
use Rattle.statements.proofs.Worked.{examples}
use Rattle.statements.proofs.Serving.{server_examples}
use Rattle.statements.proofs.Run.{run_examples}

-- all worked examples hold
pub worked_examples : WorkedExamplesHold
worked_examples = record {
  boxes = box_examples;
  ample = ample_examples;
  plans = examples;
  servers = server_examples;
  run = run_examples;
}
