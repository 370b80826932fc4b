-- What a note, its clearing or its carrying out leaves of a cradle, and its code.
use Rattle.std.proofs.Common.{◌≡◌, ℕ, true, false, ◌⊎◌, Some, None, refl, sym, ◌∙◌, inl, inr}
use Rattle.std.proofs.lemmas.Bool.{true≢false}
use Rattle.std.proofs.lemmas.Option.{none-some, same_Some}
use Rattle.tree.specs.declared.types.Code.TheVariants as codes
use Rattle.tree.specs.Rows as rows
use Rattle.cradles.specs.declared.Cradle.{Cradle}
use Rattle.cradles.specs.declared.Cradle.TheVariants.{Empty, Stays, Arrives, Departs, Swaps}
use Rattle.cradles.specs.Cradles.{cradle_code, occupant, noted_arrival, holder, has_departure, with_arrival, with_departure, without_notes, after_change}

-- two things that are the same of each kind of cradle
same_of : {A : Type 0} (f g : Cradle → A) → f Empty ≡ g Empty → ((x : ℕ) → f (Stays x) ≡ g (Stays x)) → ((x : ℕ) → f (Arrives x) ≡ g (Arrives x)) →
    ((x : ℕ) → f (Departs x) ≡ g (Departs x)) → ((x y : ℕ) → f (Swaps x y) ≡ g (Swaps x y)) → (k : Cradle) → f k ≡ g k
same_of f g e s a d w Empty = e
same_of f g e s a d w (Stays x) = s x
same_of f g e s a d w (Arrives x) = a x
same_of f g e s a d w (Departs x) = d x
same_of f g e s a d w (Swaps x y) = w x y

-- An arrival is noted.

-- who is in the cradle is as before
pub arrival_seated : (k : Cradle) (x : ℕ) → occupant (with_arrival k x) ≡ occupant k
arrival_seated k x = same_of (λ c. occupant (with_arrival c x)) occupant refl (λ y. refl) (λ y. refl) (λ y. refl) (λ y z. refl) k

-- whether a departure is noted is as before
pub arrival_departs : (k : Cradle) (x : ℕ) → has_departure (with_arrival k x) ≡ has_departure k
arrival_departs k x = same_of (λ c. has_departure (with_arrival c x)) has_departure refl (λ y. refl) (λ y. refl) (λ y. refl) (λ y z. refl) k

-- an arrival that was noted before stays noted
pub arrival_awaited : (k : Cradle) (x y : ℕ) → noted_arrival k ≡ Some y → noted_arrival (with_arrival k x) ≡ Some y
arrival_awaited Empty x y e = absurd (none-some y e)
arrival_awaited (Stays z) x y e = absurd (none-some y e)
arrival_awaited (Arrives z) x y e = e
arrival_awaited (Departs z) x y e = absurd (none-some y e)
arrival_awaited (Swaps w z) x y e = e

-- where nobody holds the cradle, the arrival is noted, and its scanner holds it
pub arrival_noted : (k : Cradle) (x : ℕ) → holder k ≡ None → (noted_arrival (with_arrival k x) ≡ Some x) × (holder (with_arrival k x) ≡ Some x)
arrival_noted Empty x e = (refl, refl)
arrival_noted (Stays y) x e = absurd (none-some y (sym e))
arrival_noted (Arrives y) x e = absurd (none-some y (sym e))
arrival_noted (Departs y) x e = (refl, refl)
arrival_noted (Swaps y z) x e = absurd (none-some z (sym e))

-- A departure is noted.

-- who is in the cradle is as before
pub departure_seated : (k : Cradle) → occupant (with_departure k) ≡ occupant k
departure_seated k = same_of (λ c. occupant (with_departure c)) occupant refl (λ y. refl) (λ y. refl) (λ y. refl) (λ y z. refl) k

-- whose arrival is noted is as before
pub departure_awaited : (k : Cradle) → noted_arrival (with_departure k) ≡ noted_arrival k
departure_awaited k = same_of (λ c. noted_arrival (with_departure c)) noted_arrival refl (λ y. refl) (λ y. refl) (λ y. refl) (λ y z. refl) k

-- who holds the cradle afterwards held it before
pub departure_holder : (k : Cradle) (x : ℕ) → holder (with_departure k) ≡ Some x → holder k ≡ Some x
departure_holder Empty x e = e
departure_holder (Stays y) x e = absurd (none-some x e)
departure_holder (Arrives y) x e = e
departure_holder (Departs y) x e = e
departure_holder (Swaps y z) x e = e

-- where somebody is in the cradle, a departure is noted afterwards
pub departure_departs : (k : Cradle) (x : ℕ) → occupant k ≡ Some x → has_departure (with_departure k) ≡ true
departure_departs Empty x e = absurd (none-some x e)
departure_departs (Stays y) x e = refl
departure_departs (Arrives y) x e = absurd (none-some x e)
departure_departs (Departs y) x e = refl
departure_departs (Swaps y z) x e = refl

-- an arrival that is awaited was awaited before, or is the one that is noted
pub arrival_from : (k : Cradle) (x y : ℕ) → noted_arrival (with_arrival k x) ≡ Some y → (noted_arrival k ≡ Some y) ⊎ (x ≡ y)
arrival_from Empty x y e = inr (same_Some x y e)
arrival_from (Stays z) x y e = absurd (none-some y e)
arrival_from (Arrives z) x y e = inl e
arrival_from (Departs z) x y e = inr (same_Some x y e)
arrival_from (Swaps w z) x y e = inl e

-- The notes are cleared.

-- no arrival is noted any more
pub cleared_awaits : (k : Cradle) → noted_arrival (without_notes k) ≡ None
cleared_awaits k = same_of (λ c. noted_arrival (without_notes c)) (λ c. None) refl (λ y. refl) (λ y. refl) (λ y. refl) (λ y z. refl) k

-- who is in the cradle is as before
pub cleared_seated : (k : Cradle) → occupant (without_notes k) ≡ occupant k
cleared_seated k = same_of (λ c. occupant (without_notes c)) occupant refl (λ y. refl) (λ y. refl) (λ y. refl) (λ y z. refl) k

-- who is in the cradle holds it
pub cleared_holder : (k : Cradle) → holder (without_notes k) ≡ occupant k
cleared_holder k = same_of (λ c. holder (without_notes c)) occupant refl (λ y. refl) (λ y. refl) (λ y. refl) (λ y z. refl) k

-- no departure is noted any more
pub cleared_departs : (k : Cradle) → has_departure (without_notes k) ≡ false
cleared_departs k = same_of (λ c. has_departure (without_notes c)) (λ c. false) refl (λ y. refl) (λ y. refl) (λ y. refl) (λ y z. refl) k

-- The notes are carried out: who holds a cradle is in it.

-- who held the cradle is in it
pub carried_seated : (k : Cradle) → occupant (after_change k) ≡ holder k
carried_seated k = same_of (λ c. occupant (after_change c)) holder refl (λ y. refl) (λ y. refl) (λ y. refl) (λ y z. refl) k

-- who holds the cradle is as before
pub carried_holder : (k : Cradle) → holder (after_change k) ≡ holder k
carried_holder k = same_of (λ c. holder (after_change c)) holder refl (λ y. refl) (λ y. refl) (λ y. refl) (λ y z. refl) k

-- no departure is noted any more
pub carried_departs : (k : Cradle) → has_departure (after_change k) ≡ false
carried_departs k = same_of (λ c. has_departure (after_change c)) (λ c. false) refl (λ y. refl) (λ y. refl) (λ y. refl) (λ y z. refl) k

-- no arrival is noted any more
pub carried_awaits : (k : Cradle) → noted_arrival (after_change k) ≡ None
carried_awaits k = same_of (λ c. noted_arrival (after_change c)) (λ c. None) refl (λ y. refl) (λ y. refl) (λ y. refl) (λ y z. refl) k

-- who is in a cradle then stayed there, or was awaited
pub carried_from : (k : Cradle) (x : ℕ) → occupant (after_change k) ≡ Some x → ((occupant k ≡ Some x) × (has_departure k ≡ false)) ⊎ (noted_arrival k ≡ Some x)
carried_from Empty x e = absurd (none-some x e)
carried_from (Stays y) x e = inl (e, refl)
carried_from (Arrives y) x e = inr e
carried_from (Departs y) x e = absurd (none-some x e)
carried_from (Swaps y z) x e = inr e

-- who is awaited holds the cradle
pub awaited_holds : (k : Cradle) (x : ℕ) → noted_arrival k ≡ Some x → holder k ≡ Some x
awaited_holds Empty x e = absurd (none-some x e)
awaited_holds (Stays y) x e = absurd (none-some x e)
awaited_holds (Arrives y) x e = e
awaited_holds (Departs y) x e = absurd (none-some x e)
awaited_holds (Swaps y z) x e = e

-- who is in a cradle and does not depart stays, and holds it
pub stays_on : (k : Cradle) (x : ℕ) → occupant k ≡ Some x → has_departure k ≡ false → (holder k ≡ Some x) × (cradle_code k ≡ codes.Stays)
stays_on Empty x e d = absurd (none-some x e)
stays_on (Stays y) x e d = (e, refl)
stays_on (Arrives y) x e d = absurd (none-some x e)
stays_on (Departs y) x e d = absurd (true≢false d)
stays_on (Swaps y z) x e d = absurd (true≢false d)

-- who holds a cradle is in it and does not depart, or is awaited
pub holder_from : (k : Cradle) (x : ℕ) → holder k ≡ Some x → ((occupant k ≡ Some x) × (has_departure k ≡ false)) ⊎ (noted_arrival k ≡ Some x)
holder_from k x e = carried_from k x (carried_seated k ∙ e)

-- Its code.

-- a departure is noted just where the code says that somebody departs
pub departs_code : (k : Cradle) → has_departure k ≡ rows.is_departure_code (cradle_code k)
departs_code k = same_of has_departure (λ c. rows.is_departure_code (cradle_code c)) refl (λ y. refl) (λ y. refl) (λ y. refl) (λ y z. refl) k

-- where the code says that somebody is there afterwards, somebody holds the cradle
pub seats_holder : (k : Cradle) → rows.is_occupied_after (cradle_code k) ≡ true → (x : ℕ) × (holder k ≡ Some x)
seats_holder Empty e = absurd (true≢false (sym e))
seats_holder (Stays x) e = (x, refl)
seats_holder (Arrives x) e = (x, refl)
seats_holder (Departs x) e = absurd (true≢false (sym e))
seats_holder (Swaps x y) e = (y, refl)

-- where the code says that somebody stays, somebody is in the cradle
pub stays_seated : (k : Cradle) → rows.is_stay_code (cradle_code k) ≡ true → (x : ℕ) × (occupant k ≡ Some x)
stays_seated Empty e = absurd (true≢false (sym e))
stays_seated (Stays x) e = (x, refl)
stays_seated (Arrives x) e = absurd (true≢false (sym e))
stays_seated (Departs x) e = absurd (true≢false (sym e))
stays_seated (Swaps x y) e = absurd (true≢false (sym e))
