-- Every call keeps a server sound, and what a publishing does to keys.
use Rattle.std.proofs.Common.{◌+◌}
use Rattle.server_rules.specs.States.{row}
use Rattle.server_rules.proofs.Rows.{code_at_leaf, noted_root}
use Rattle.server_rules.proofs.Renewals.{renewal}
use Rattle.server_rules.proofs.Sounds.{new_sound, after_sound}
use Rattle.server_rules.proofs.FilesSound.{file_sound}
use Rattle.server_rules.specs.Laws.{StateLaws}

-- all that holds of every server
pub state_laws : StateLaws
state_laws = record {
  new_sound = new_sound;
  after_sound = after_sound;
  code_at_leaf = λ s c sound h. code_at_leaf s c h;
  noted_root = noted_root;
  renewal = λ s material sound. renewal (row s) (s.epoch + 1) material s.nodes sound.node_count;
  file_sound = file_sound;
}
