-- What a part of the check answers, and where it leaves the cursor.
use Rattle.std.specs.Prelude.{◌≡◌, ℕ, ◌+◌, Bool, true, List, [], ◌∷◌}
use Rattle.std.specs.Prelude.{OnOk, Some, None, Ok, Err, Option, Result}
use Rattle.std.specs.Borrow.{Bor}
use Rattle.byte_strings.specs.Numbers.{byte_at, be_number2, be_number4}
use Rattle.byte_strings.specs.Strings.{part}
use Rattle.file_rules.specs.Fields.{FileField, file_field, fault_in}
use Rattle.layout.specs.declared.cursor.Cursor.{Cursor}
use Rattle.layout.specs.declared.fault.LayoutFault.{LayoutFault}

-- the fault at a place
abbrev pub layout_fault_at : ℕ → LayoutFault
layout_fault_at place = record { place = place }

-- the value that was read, or the place of the first fault
abbrev pub value_or_fault : {A : Type 0} → Option ℕ → A → Result A LayoutFault
value_or_fault None value = Ok value
value_or_fault (Some place) value = Err (layout_fault_at place)

-- an answer that has a part of the file, by that part's bytes
abbrev pub answer_bytes : Result (Bor (List ℕ)) LayoutFault → Result (List ℕ) LayoutFault
answer_bytes (Ok bytes) = Ok bytes.now
answer_bytes (Err fault) = Err fault

-- reading so many bytes, which are these fields and have this value
pub record Reads {A : Type 0} (before after : Cursor) (size : ℕ) (fields : List FileField)
    (value : A) (r : Result A LayoutFault) : Type 0 where
  -- the value, or the first fault of the fields
  pub answer : r ≡ value_or_fault (fault_in before.bytes.now fields) value
  -- the cursor is behind the fields; after a fault, it may be anywhere
  pub moved : OnOk r (after.at ≡ before.at + size)
  -- the file itself is as it was
  pub same : after.bytes.now ≡ before.bytes.now

-- reading one field of so many bytes, whose value is right if it passes a test
abbrev pub ReadsField : {A : Type 0} →
    Cursor → Cursor → ℕ → (Cursor → A) → (A → Bool) → Result A LayoutFault → Type 0
ReadsField before after size value is_right r =
    Reads before after size
    (file_field before.at size (is_right (value before)) ∷ []) (value before) r

-- any value is right
abbrev pub is_anything : {A : Type 0} → A → Bool
is_anything value = true

-- the byte that stands at the cursor
abbrev pub byte_here : Cursor → ℕ
byte_here c = byte_at c.bytes.now c.at

-- the number of two bytes that stands there
abbrev pub number2_here : Cursor → ℕ
number2_here c = be_number2 c.bytes.now c.at

-- the number of four bytes that stands there
abbrev pub number4_here : Cursor → ℕ
number4_here c = be_number4 c.bytes.now c.at

-- the n bytes that stand there
abbrev pub part_here : ℕ → Cursor → List ℕ
part_here n c = part n c.at c.bytes.now
