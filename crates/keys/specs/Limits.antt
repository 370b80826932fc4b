-- The serials of scanners.
use Rattle.std.specs.Prelude.{ℕ, ◌≤◌, Bool, ◌&&◌, nat_le}
use Rattle.keys.specs.declared.limits.TheConstants.{LAST_SERIAL}

-- a scanner may have the serial x: 1 to 9,999
abbrev pub IsSerial : ℕ → Type 0
IsSerial x = (1 ≤ x) × (x ≤ LAST_SERIAL)

-- the same as a test
abbrev pub is_serial : ℕ → Bool
is_serial x = nat_le 1 x && nat_le x LAST_SERIAL
