use Rattle.std.proofs.Common.{refl}
use Rattle.server_rules.specs.Calls.{drop_notes}
use Rattle.site.proofs.Sites.{keeps_files}
use Rattle.site.proofs.site.Site.drop_notes.Goals as goal

pub invariant_of-self : goal.invariant_of-self
invariant_of-self c =
    record { at_work = keeps_files drop_notes tt _ _ c.drop_notes.ensures refl _ _ c.args.self.now.at_work }
