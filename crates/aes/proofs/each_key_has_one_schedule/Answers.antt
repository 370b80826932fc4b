use Rattle.aes.proofs.Schedules.{has_one_schedule}
use Rattle.aes.proofs.each_key_has_one_schedule.Goals as goal

pub returns : goal.returns
returns c nk key some long = has_one_schedule nk some key long
