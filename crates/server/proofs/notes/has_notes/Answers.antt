use Rattle.std.proofs.Common.{Bool, rules}
use Rattle.std.proofs.lemmas.Iterator.{YieldsList-from_slice}
use Rattle.std.proofs.lemmas.Iterator.Search.{any_from_yields_List}
use Rattle.tree.specs.Rows.{is_change_code}
use Rattle.cradles.specs.declared.Cradle.{Cradle}
use Rattle.cradles.specs.Cradles.{cradle_code}
use Rattle.server.proofs.notes.has_notes.Goals as goal

pub returns : goal.returns
returns c =
    let test : Cradle → Bool = λ it. is_change_code (cradle_code it) in
    any_from_yields_List test _ _ c.any.result c.any.ensures.ran
    (YieldsList-from_slice c.args.state.now.cradles c.iter.ensures.rest) (λ x b q k. search rules)
