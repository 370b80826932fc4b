use Rattle.std.proofs.Common.{refl}
use Rattle.server_rules.specs.Calls.{admit}
use Rattle.site.proofs.Sites.{keeps_files}
use Rattle.site.proofs.site.Site.admit.Goals as goal

pub invariant_of-self : goal.invariant_of-self
invariant_of-self c =
    record { at_work = keeps_files (admit c.args.serial c.args.cradle) tt _ _ c.admit.ensures.server refl _ _ c.args.self.now.at_work }
