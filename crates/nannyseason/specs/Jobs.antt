-- What a job with the wrap of a kind leaves in a value that its caller lent it.
use Rattle.std.specs.Prelude.{◌≡◌}
use Rattle.std.specs.Borrow.{MutBor}

-- the reference is the one that was lent, and this value is behind it now
abbrev pub ChangesTo : {A : Type 0} → MutBor A → MutBor A → A → Type 0
ChangesTo old new value = (new.now ≡ value) × (new.ghost_name ≡ old.ghost_name)
