-- A publishing that nothing refuses any more.
use Rattle.std.specs.Prelude.{Ok, Err, Result}
use Rattle.refusal.specs.Refusals.{Verdict}
use Rattle.server_rules.specs.declared.state.PublishReport.{PublishReport}
use Rattle.server.specs.declared.fault.PublishFault.{PublishFault}
use Rattle.server.specs.declared.publish.Prepared.{Prepared}
use Rattle.server.specs.Refusals.{publish_refusal}

-- the verdict of a preparation: what the publishing reports, or why it is refused
abbrev pub prepared_verdict : Result Prepared PublishFault → Verdict PublishReport
prepared_verdict (Ok it) = Ok it.report
prepared_verdict (Err fault) = Err (publish_refusal fault)
