-- What a call answers: 0 where it was done; else the number of the refusal, and its first two
-- values, 0 where there are fewer.
use Rattle.std.specs.Prelude.{ℕ, [], Ok, Err, slice_index_or}
use Rattle.refusal.specs.Refusals.{Refusal, Verdict, refusal}
use Rattle.wrap.specs.Refusals.{wrap_refusal}
use Rattle.file_reader.specs.Refusals.{file_refusal}
use Rattle.climb.specs.Refusals.{read_refusal}
use Rattle.file_reader.specs.Refusals.{refusal_with_more}
use Rattle.player.specs.Refusals.{enrol_refusal, ring_refusal}
use Rattle.wrap.specs.declared.fault.WrapFault.{WrapFault}
use Rattle.file_reader.specs.declared.fault.FileFault.{FileFault}
use Rattle.climb.specs.declared.fault.ReadFault.{ReadFault}
use Rattle.player.specs.declared.fault.EnrolFault.{EnrolFault}
use Rattle.player.specs.declared.fault.RingFault.{RingFault}
use Rattle.nannyseason.specs.declared.answer.Answer.{Answer}

-- an answer by its parts
abbrev pub answer : ℕ → ℕ → ℕ → Answer
answer refusal first second = record { refusal = refusal; first = first; second = second }

-- the first two values of a refusal, 0 where there are fewer
abbrev pub value_pair : Refusal → ℕ × ℕ
value_pair r = (slice_index_or r.values 0 0, slice_index_or r.values 1 0)

-- the answer that reports a refusal
abbrev pub refusal_answer : Refusal → Answer
refusal_answer r = answer r.number (value_pair r).0 (value_pair r).1

-- the answer that reports a verdict: zeros where the call was done
abbrev pub verdict_answer : {A : Type 0} → Verdict A → Answer
verdict_answer (Ok a) = answer 0 0 0
verdict_answer (Err r) = refusal_answer r

-- the library's own refusal, of what no caller should hand in
abbrev pub misuse : {A : Type 0} → Verdict A
misuse = refusal 64 []

-- the answer that reports a fault of a wrap
abbrev pub wrap_answer : WrapFault → Answer
wrap_answer f = refusal_answer (wrap_refusal f)

-- the two values that a read reports of an opening in the file of that epoch
abbrev pub opening_values : ℕ → FileFault → ℕ × ℕ
opening_values epoch f = value_pair (refusal_with_more epoch (file_refusal f))

-- the answer that reports a fault of a read
abbrev pub read_answer : ReadFault → Answer
read_answer f = refusal_answer (read_refusal f)

-- the answer that reports a fault of an enrolling
abbrev pub enrol_answer : EnrolFault → Answer
enrol_answer f = refusal_answer (enrol_refusal f)

-- the answer that reports a fault of a showing or a wiping
abbrev pub ring_answer : RingFault → Answer
ring_answer f = refusal_answer (ring_refusal f)
