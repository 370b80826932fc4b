-- What holds of seats, ended stays, the epochs of keys and links after any calls, and that a publishing keeps it.
use Rattle.std.proofs.Common.{◌≡◌, ℕ, ◌<◌, ◌≤◌, ◌⊎◌, List}
use Rattle.tree.specs.Tree.{IsWithin}
use Rattle.keys.specs.declared.KeyName.{KeyName}
use Rattle.keys.specs.Names.{key_name}
use Rattle.server_rules.specs.States.{leaf_of}
use Rattle.cradles.specs.Cradles.{IsCradle}
use Rattle.law.specs.Book.{Seat, Stay, Covers}
use Rattle.law.specs.Law.{leaf_key_name}
use Rattle.chains.proofs.Chains.{IsReachedByLinks}
use Rattle.tree.proofs.Members.{In}

-- a stay of a book with this epoch, these seats and these ended stays
abbrev pub IsStayOf : ℕ → List Seat → List Stay → Stay → Type 0
IsStayOf epoch seats ended s = (In s.seat seats × (s.last ≡ epoch)) ⊎ In s ended

-- the leaf of a seat, or of a stay's seat
abbrev pub leaf_at : Seat → ℕ
leaf_at t = leaf_of t.cradle

-- the one name of a seat's leaf key
abbrev pub IsLeafKeyName : Seat → KeyName → Type 0
IsLeafKeyName t name = leaf_key_name t ≡ name

-- a seat: it began by now, and its leaf's key was made when it began
pub record IsSteadySeat (epoch : ℕ) (made : ℕ → ℕ) (t : Seat) : Type 0 where
  pub cradled : IsCradle t.cradle
  pub began : (1 ≤ t.first) × (t.first ≤ epoch)
  pub since : made (leaf_at t) ≡ t.first

-- an ended stay: it began by its last epoch, and is over
pub record IsSteadyStay (epoch : ℕ) (s : Stay) : Type 0 where
  pub cradled : IsCradle s.seat.cradle
  pub began : (1 ≤ s.seat.first) × (s.seat.first ≤ s.last)
  pub over : s.last < epoch

-- whoever may hold the opener's key may hold the content's
pub record IsRightLink (epoch : ℕ) (seats : List Seat) (ended : List Stay) (opener content : KeyName) : Type 0 where
  pub content_node : 0 < content.node
  pub opener_past : opener.epoch ≤ epoch
  pub content_past : content.epoch ≤ epoch
  pub right : (s : Stay) → IsStayOf epoch seats ended s → IsWithin (leaf_at s.seat) opener.node → Covers s opener.epoch →
      IsWithin (leaf_at s.seat) content.node × Covers s content.epoch

-- what holds of all seats, ended stays, keys and links
pub record IsSteady (epoch : ℕ) (seats : List Seat) (ended : List Stay) (made : ℕ → ℕ) (link : KeyName → KeyName → Type 0) : Type 0 where
  pub seats_are : (t : Seat) → In t seats → IsSteadySeat epoch made t
  pub ended_are : (s : Stay) → In s ended → IsSteadyStay epoch s
  pub made_past : (n : ℕ) → made n ≤ epoch
  -- a stay that may hold a node's present key still lasts
  pub holders_last : (n : ℕ) → 0 < n → (s : Stay) → IsStayOf epoch seats ended s → IsWithin (leaf_at s.seat) n → Covers s (made n) → s.last ≡ epoch
  pub links_right : (m n : KeyName) → link m n → IsRightLink epoch seats ended m n
  -- who is seated reaches the present key of each node above its leaf, and each stay the group keys of its epochs
  pub path : (t : Seat) → In t seats → (n : ℕ) → 0 < n → IsWithin (leaf_at t) n → IsReachedByLinks (IsLeafKeyName t) link (key_name n (made n))
  pub history : (s : Stay) → IsStayOf epoch seats ended s → (e : ℕ) → Covers s e → IsReachedByLinks (IsLeafKeyName s.seat) link (key_name 1 e)
