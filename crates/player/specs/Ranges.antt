-- The numbers that a player can have.
use Rattle.std.specs.Prelude.{ℕ, ◌≤◌}
use Rattle.keys.specs.Limits.{IsSerial}
use Rattle.keys.specs.declared.limits.TheConstants.{LAST_EPOCH}

-- the numbers of one that is waiting or seated: they are what a card may say
pub record HasPlayerRanges (serial leaf epoch : ℕ) : Type 0 where
  pub serial_range : IsSerial serial
  pub leaf_range : (128 ≤ leaf) × (leaf ≤ 255)
  pub epoch_range : (1 ≤ epoch) × (epoch ≤ LAST_EPOCH)
