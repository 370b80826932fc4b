-- The entry that a wrap gives.
use Rattle.std.specs.Prelude.{ℕ, List, [], ◌∷◌, Some, None, Ok, Option}
use Rattle.refusal.specs.Refusals.{Verdict, refusal, verdict_of}
use Rattle.wrap.specs.Calls.{open_verdict, place_after_open}
use Rattle.wrap.specs.Meaning.{WrapMeaning}
use Rattle.keys.specs.declared.NodeKey.{NodeKey}
use Rattle.file_reader.specs.Refusals.{refusal_with_more}
use Rattle.file_reader.specs.Views.{content_under}
use Rattle.file_reader.specs.declared.wraps.FileWrap.{FileWrap}

-- what the opening of a wrap under a key answers, as the reading reports it: 9, or 18 with the
-- wrap's index and the file's epoch
abbrev pub open_wrap_verdict : WrapMeaning → List ℕ → FileWrap → List ℕ → Verdict (Unit {0})
open_wrap_verdict w key x work =
    verdict_of (refusal_with_more x.content.epoch)
    (verdict_of (refusal_with_more x.index)
    (open_verdict w.length x.sealed.now (content_under w key x) work))

-- the place for the content after such an opening: the content, or what it held
abbrev pub place_after_open_wrap : WrapMeaning → List ℕ → FileWrap → List ℕ → List ℕ → List ℕ
place_after_open_wrap w key x place work =
    place_after_open w.length x.sealed.now (content_under w key x) place work

-- the entry that a content becomes, made in the file's epoch; if there is none, 18 with the wrap's
-- index and that epoch
abbrev pub entry_with_key : ℕ → ℕ → Option (List ℕ) → Verdict NodeKey
entry_with_key epoch index (Some key) = Ok (record { made = epoch; key = key })
entry_with_key epoch index None = refusal 18 (index ∷ epoch ∷ [])
