-- Where no position is found, nothing passes.
use Rattle.std.proofs.Common.{◌≡◌, ℕ, ◌<◌, Bool, true, false, cond, ltb, List, length, get_or, Some, None, refl, sym, arith}
use Rattle.std.specs.List.{position, position_or_len}
use Rattle.std.proofs.lemmas.Bool.{ltb-false}
use Rattle.std.proofs.lemmas.Option.{none-some}
use Rattle.std.proofs.lemmas.List.Sums.{fails_before_first}

-- where no position is found, the test fails at each place
pub none_passes : {X : Type 0} (test : X → Bool) (xs : List X) (i : ℕ) (d : X) → position test xs ≡ None → i < length xs → test (get_or xs i d) ≡ false
none_passes test xs i d e l = go (ltb (position_or_len test xs) (length xs)) refl e
  where
    go : (b : Bool) → ltb (position_or_len test xs) (length xs) ≡ b → cond b (Some (position_or_len test xs)) None ≡ None → test (get_or xs i d) ≡ false
    go true h n = absurd (none-some (position_or_len test xs) (sym n))
    go false h n = fails_before_first test xs i d (omega (arith, ltb-false (position_or_len test xs) (length xs) h))
