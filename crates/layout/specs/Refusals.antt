-- The refusal of a file's check: its number, and the value that is reported with it.
use Rattle.std.specs.Prelude.{ℕ, List, [], ◌∷◌, Some, None, Ok, Option}
use Rattle.refusal.specs.Refusals.{Refusal, Verdict, refusal_with, refusal}
use Rattle.file_rules.specs.Layout.{layout_fault}
use Rattle.layout.specs.declared.fault.LayoutFault.{LayoutFault}

-- number 15, with the place of the first fault
abbrev pub layout_refusal : LayoutFault → Refusal
layout_refusal fault = refusal_with 15 (fault.place ∷ [])

-- no fault, or a refusal with the place of one
abbrev pub layout_verdict : Option ℕ → Verdict (Unit {0})
layout_verdict None = Ok tt
layout_verdict (Some place) = refusal 15 (place ∷ [])

-- what the check of a file reports, by a wrap of that kind that writes L sealed bytes
abbrev pub check_verdict : ℕ → ℕ → List ℕ → Verdict (Unit {0})
check_verdict kind L bs = layout_verdict (layout_fault kind L bs)
