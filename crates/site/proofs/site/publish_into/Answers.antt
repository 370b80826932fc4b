use Rattle.std.proofs.Common.{replicate, ◌∙◌}
use Rattle.std.proofs.lemmas.List.{take_at}
use Rattle.tree.specs.declared.types.Opener.TheVariants.{Present}
use Rattle.server_rules.specs.Calls.{Publishing, publishing}
use Rattle.law.proofs.Servers.{publish_given}
use Rattle.server.specs.Refusals.{publish_refusal}
use Rattle.site.proofs.Sites.{files_after}
use Rattle.site.proofs.site.publish_into.Goals as goal

pub returns-clause-files : goal.returns-clause-files
returns-clause-files g c =
    let pairs = replicate 896 (record { opener = Present 1; content = 1 }) in
    let call : Publishing = publishing g.S.Strategy.meaning g.W.Wrap.meaning c.args.material.now pairs c.deref_mut.result.now (replicate 512 0) in
    let given = publish_given g.met.S.Strategy.lawful g.met.W.Wrap.lawful _ c.type_inv.material in
    let is = c.publish.ensures in
    let same = take_at c.publish.new.file _ _ (c.publish.auto.file ∙ c.deref_mut.ensures.len) in
    files_after publish_refusal call given _ _ is.server _ is.answer _ _ same is.written
