use Rattle.file_rules.proofs.Returned.{returned}
use Rattle.file_rules.proofs.Accepted.{accepted_was_written}
use Rattle.file_rules.proofs.Planned.{plan_is_sound}
use Rattle.file_rules.proofs.file_laws.Goals as goal

pub returns : goal.returns
returns c = record {
  sound_round_trips = returned;
  accepted_was_written = accepted_was_written;
  plan_is_sound = plan_is_sound;
}
