-- What fields without fault say.
use Rattle.std.proofs.Common.{◌≡◌, ℕ, zero, suc, ◌+◌, ◌*◌, ◌<◌, ◌≤◌, List, length, None, sym, ◌∙◌, suc-mul, arith}
use Rattle.byte_strings.specs.Numbers.{byte_at, be_number2, be_number4}
use Rattle.file_rules.specs.Fields.{fault_in}
use Rattle.file_rules.specs.Layout.{head_fields, node_fields, count_fields, wrap_fields, wraps_fields}
use Rattle.file_rules.proofs.Faults.{fault_place-append, none_both}

-- what the head of a file without fault says
pub record IsFaultlessHead (kind : ℕ) (bs : List ℕ) : Type 0 where
  pub first : byte_at bs 0 ≡ 0x4B
  pub second : byte_at bs 1 ≡ 0x01
  pub third : byte_at bs 2 ≡ kind
  pub epoch : (1 ≤ be_number4 bs 3) × (be_number4 bs 3 ≤ 1000000)
  pub nodes : (1 ≤ byte_at bs 7) × (byte_at bs 7 ≤ 127)

-- a head without fault has these values
pub faultless_head : (kind : ℕ) (bs : List ℕ) → fault_in bs (head_fields kind bs) ≡ None → IsFaultlessHead kind bs
faultless_head kind bs e = record {
  first = grind arith;
  second = grind arith;
  third = grind arith;
  epoch = (grind arith, grind arith);
  nodes = (grind arith, grind arith);
}

-- a changed node that is passed, and what follows it
pub record IsFaultlessNode (bs : List ℕ) (at before left : ℕ) : Type 0 where
  pub inside : at < length bs
  pub below : byte_at bs at < before
  pub last : left ≡ 0 → byte_at bs at ≡ 1
  pub more : fault_in bs (node_fields bs (at + 1) (byte_at bs at) left) ≡ None

-- the first of some changed nodes without fault is such a node
pub faultless_node : (bs : List ℕ) (at before left : ℕ) → fault_in bs (node_fields bs at before (suc left)) ≡ None → IsFaultlessNode bs at before left
faultless_node bs at before left e = record { inside = grind arith; below = grind arith; last = λ z. grind arith; more = grind arith }

-- wraps: the first, and those that follow it
module _ (L epoch : ℕ) (nodes bs : List ℕ) where
  -- of wraps without fault the first has none, and neither have the others
  pub wraps_pass : (at k : ℕ) → fault_in bs (wraps_fields L epoch nodes bs at (suc k)) ≡ None →
      (fault_in bs (wrap_fields L epoch nodes bs at) ≡ None) × (fault_in bs (wraps_fields L epoch nodes bs (at + (6 + L)) k) ≡ None)
  wraps_pass at k e =
      let more = wraps_fields L epoch nodes bs (at + (6 + L)) k in
      none_both _ _ (sym (fault_place-append (length bs) (wrap_fields L epoch nodes bs at) more) ∙ e)

  -- wraps without fault end where the file does
  pub wraps_end : (at k : ℕ) → fault_in bs (wraps_fields L epoch nodes bs at k) ≡ None → at + k * (6 + L) ≡ length bs
  wraps_end at zero e = grind arith
  wraps_end at (suc k) e = omega (arith, wraps_end (at + (6 + L)) k (wraps_pass at k e).1, suc-mul k (6 + L))

-- the number of wraps ends within the file, and is at most 896
pub count_ends : (bs : List ℕ) (at : ℕ) → fault_in bs (count_fields bs at) ≡ None → (at + 2 ≤ length bs) × (be_number2 bs at ≤ 896)
count_ends bs at e = (grind arith, grind arith)

-- a wrap without fault ends within the file
pub wrap_ends : (L epoch : ℕ) (nodes bs : List ℕ) (at : ℕ) → fault_in bs (wrap_fields L epoch nodes bs at) ≡ None → at + 6 + L ≤ length bs
wrap_ends L epoch nodes bs at e = grind arith
