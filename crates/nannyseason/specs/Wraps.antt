-- Sealing and opening by the wrap of a kind, with keys, names and contents of any length.
use Rattle.std.specs.Prelude.{if◌then◌else◌, ℕ, ◌&&◌, Bool, List, length, Some, None, Option, ◌==◌}
use Rattle.refusal.specs.Refusals.{Verdict}
use Rattle.wrap.specs.Calls.{seal_verdict, buffer_after_seal, open_verdict, place_after_open}
use Rattle.wrap.specs.Meaning.{WrapMeaning}
use Rattle.nannyseason.specs.Answers.{misuse}

-- a key, a name and a content have 32, 10 and 32 bytes
abbrev pub has_right_sizes : List ℕ → List ℕ → List ℕ → Bool
has_right_sizes key name content = length key == 32 && (length name == 10 && length content == 32)

-- what comes of the wrap, where one is known and the sizes are right; else what there is without
abbrev pub wrap_outcome_or : {A : Type 0} → Option WrapMeaning → Bool → (WrapMeaning → A) → A → A
wrap_outcome_or None fits call other = other
wrap_outcome_or (Some w) fits call other = if fits then call w else other

-- what a sealing reports
abbrev pub seal_call_verdict :
    Option WrapMeaning → List ℕ → List ℕ → List ℕ → List ℕ → List ℕ → Verdict (Unit {0})
seal_call_verdict w key name content out work =
    wrap_outcome_or w (has_right_sizes key name content)
    (λ v. seal_verdict v.length out work) misuse

-- the buffer after it
abbrev pub buffer_after_seal_call :
    Option WrapMeaning → List ℕ → List ℕ → List ℕ → List ℕ → List ℕ → List ℕ
buffer_after_seal_call w key name content out work =
    wrap_outcome_or w (has_right_sizes key name content)
    (λ v. buffer_after_seal v.length (v.seals key name content) out work) out

-- what an opening reports
abbrev pub open_call_verdict :
    Option WrapMeaning → List ℕ → List ℕ → List ℕ → List ℕ → List ℕ → Verdict (Unit {0})
open_call_verdict w key name bytes place work =
    wrap_outcome_or w (has_right_sizes key name place)
    (λ v. open_verdict v.length bytes (v.opens key name bytes) work) misuse

-- the place of the content after it
abbrev pub place_after_open_call :
    Option WrapMeaning → List ℕ → List ℕ → List ℕ → List ℕ → List ℕ → List ℕ
place_after_open_call w key name bytes place work =
    wrap_outcome_or w (has_right_sizes key name place)
    (λ v. place_after_open v.length bytes (v.opens key name bytes) place work) place
