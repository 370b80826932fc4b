-- The calls of a key wrap: their checks in order, and what they leave in the bytes that are lent.
use Rattle.std.specs.Prelude.{ℕ, Bool, if◌then◌else◌, ◌&&◌, ◌==◌, nat_lt, Option, is_some}
use Rattle.std.specs.Prelude.{unwrap_or}
use Rattle.std.specs.Prelude.{Ok, List, [], ◌∷◌, ◌++◌, length, drop, replicate}
use Rattle.refusal.specs.Refusals.{Verdict, refusal, new_or_old}
use Rattle.wrap.specs.declared.working.TheConstants.{WORKING_BYTES}

-- are there too few working bytes?
abbrev pub is_working_short : List ℕ → Bool
is_working_short work = nat_lt (length work) WORKING_BYTES

-- the working bytes after a call: zeros, unless there were too few of them
abbrev pub work_after : List ℕ → List ℕ
work_after work = if is_working_short work then work else replicate (length work) 0

-- what a sealing to `out` reports, by a wrap that writes len bytes
abbrev pub seal_verdict : ℕ → List ℕ → List ℕ → Verdict (Unit {0})
seal_verdict len out work =
    if is_working_short work then refusal 9 []
    else (if nat_lt (length out) len then refusal 12 (len ∷ []) else Ok tt)

-- the buffer after a sealing: the sealed bytes at its front, the rest as it was
abbrev pub buffer_after_seal : ℕ → List ℕ → List ℕ → List ℕ → List ℕ
buffer_after_seal len sealed out work =
    new_or_old (seal_verdict len out work) (sealed ++ drop len out) out

-- what an opening of `bytes` reports, by a wrap that writes len bytes, where they open to `content`
abbrev pub open_verdict : ℕ → List ℕ → Option (List ℕ) → List ℕ → Verdict (Unit {0})
open_verdict len bytes content work =
    if is_working_short work then refusal 9 []
    else (if length bytes == len && is_some content then Ok tt else refusal 18 [])

-- the place after an opening: the content, or what it held
abbrev pub place_after_open : ℕ → List ℕ → Option (List ℕ) → List ℕ → List ℕ → List ℕ
place_after_open len bytes content place work =
    new_or_old (open_verdict len bytes content work) (unwrap_or content place) place
