use Rattle.std.proofs.Common.{refl}
use Rattle.server_rules.specs.Calls.{remove}
use Rattle.site.proofs.Sites.{keeps_files}
use Rattle.site.proofs.site.Site.remove.Goals as goal

pub invariant_of-self : goal.invariant_of-self
invariant_of-self c =
    record { at_work = keeps_files (remove c.args.serial) tt _ _ c.remove.ensures.server refl _ _ c.args.self.now.at_work }
