use Rattle.aes.proofs.Permuting.{permutes}
use Rattle.aes.proofs.aes_permutes_blocks.Goals as goal

pub returns : goal.returns
returns c = permutes
