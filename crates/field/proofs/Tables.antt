-- What a look-up gives, of any table that a computed test finds to hold the right values.
use mathlib.Core.Path.{◌≡◌}
use mathlib.Core.Bool.{Bool}
use mathlib.Core.List.{List, [], ◌∷◌}
use Prim.Native.Nat.{ℕ, ◌<◌}
use lib.Dec.{T, eqb, eqb→eq}
use lib.ListN.{length, get_or}
use Rattle.std.specs.Int.{byte_at, to_le_bytes, w32}
use Rattle.field.specs.Field.{s_box, inv_s_box, mix_share, inv_mix_share, shares_of}
use Rattle.field.specs.declared.s_box.TheConstants.{SBOX}
use Rattle.field.specs.declared.inv_s_box.TheConstants.{INV_SBOX}
use Rattle.field.specs.declared.shares.TheConstants.{SHARES}
use Rattle.field.specs.declared.inv_shares.TheConstants.{INV_SHARES}
use Rattle.field.proofs.Tests.{both_hold, both_left, both_right, holds_at_entries, holds_at_entry}

-- does the table hold f of each of its places?
abbrev pub holds_values : (ℕ → ℕ) → List ℕ → Bool
holds_values f table = holds_at_entries (λ k x. eqb x (f k)) 0 table

-- a table that passes the test has f of each place at that place
entry : (f : ℕ → ℕ) (table : List ℕ) → T (holds_values f table) → (b : ℕ) → b < length table → get_or table b 0 ≡ f b
entry f table t b h = eqb→eq (get_or table b 0) (f b) (holds_at_entry (λ k x. eqb x (f k)) table t b h)

-- the table of SBOX, where it passes, has what SBOX makes of each byte
pub s_box_entry : T (holds_values s_box SBOX) → (b : ℕ) → b < 256 → get_or SBOX b 0 ≡ s_box b
s_box_entry = entry s_box SBOX

-- the table of INVSBOX, where it passes, has what INVSBOX makes of each byte
pub inv_s_box_entry : T (holds_values inv_s_box INV_SBOX) → (b : ℕ) → b < 256 → get_or INV_SBOX b 0 ≡ inv_s_box b
inv_s_box_entry = entry inv_s_box INV_SBOX

-- does each word of the table hold in its byte n the share n of its place?
abbrev pub holds_byte : (ℕ → ℕ → ℕ) → ℕ → List ℕ → Bool
holds_byte share n table = holds_at_entries (λ k x. eqb (byte_at n x) (share n k)) 0 table

-- in its two low bytes the first two shares?
abbrev pub holds_low : (ℕ → ℕ → ℕ) → List ℕ → Bool
holds_low share table = both_hold (holds_byte share 0 table) (holds_byte share 1 table)

-- in its two high bytes the last two?
abbrev pub holds_high : (ℕ → ℕ → ℕ) → List ℕ → Bool
holds_high share table = both_hold (holds_byte share 2 table) (holds_byte share 3 table)

-- and in its four bytes the four shares?
abbrev pub holds_shares : (ℕ → ℕ → ℕ) → List ℕ → Bool
holds_shares share table = both_hold (holds_low share table) (holds_high share table)

-- a table that passes the test has, as the bytes of each word, the shares of its place
shares : (share : ℕ → ℕ → ℕ) (table : List ℕ) → T (holds_shares share table) → (b : ℕ) → b < length table
    → to_le_bytes w32 (get_or table b 0) ≡ shares_of share b
shares share table t b h =
    let low : T (holds_low share table) = both_left (holds_low share table) (holds_high share table) t in
    let high : T (holds_high share table) = both_right (holds_low share table) (holds_high share table) t in
    let b0 = byte 0 (both_left (holds_byte share 0 table) (holds_byte share 1 table) low) in
    let b1 = byte 1 (both_right (holds_byte share 0 table) (holds_byte share 1 table) low) in
    let b2 = byte 2 (both_left (holds_byte share 2 table) (holds_byte share 3 table) high) in
    let b3 = byte 3 (both_right (holds_byte share 2 table) (holds_byte share 3 table) high) in
    λ i. b0 i ∷ b1 i ∷ b2 i ∷ b3 i ∷ []
  where
    byte : (n : ℕ) → T (holds_byte share n table) → byte_at n (get_or table b 0) ≡ share n b
    byte n p = eqb→eq (byte_at n (get_or table b 0)) (share n b) (holds_at_entry (λ k x. eqb (byte_at n x) (share n k)) table p b h)

-- the table of shares, where it passes, has those of what SBOX makes of each byte
pub shares_entry : T (holds_shares (λ i b. mix_share i (s_box b)) SHARES) → (b : ℕ) → b < 256
    → to_le_bytes w32 (get_or SHARES b 0) ≡ shares_of (λ i b. mix_share i (s_box b)) b
shares_entry = shares (λ i b. mix_share i (s_box b)) SHARES

-- the table of inverse shares, where it passes, has those of each byte
pub inv_shares_entry : T (holds_shares inv_mix_share INV_SHARES) → (b : ℕ) → b < 256 → to_le_bytes w32 (get_or INV_SHARES b 0) ≡ shares_of inv_mix_share b
inv_shares_entry = shares inv_mix_share INV_SHARES
