-- What every server keeps.
use Rattle.std.specs.Prelude.{◌≡◌, ℕ, ◌<◌, ◌≤◌, length, Some, None}
use Rattle.byte_strings.specs.Strings.{IsSized}
use Rattle.tree.specs.Tree.{IsBeneath}
use Rattle.keys.specs.Names.{unmade_key, keys_in}
use Rattle.tree.specs.declared.limits.TheConstants.{CRADLES}
use Rattle.cradles.specs.Cradles.{IsCradle, occupant, holder}
use Rattle.server_rules.specs.declared.state.State.{State}
use Rattle.server_rules.specs.States.{cradle, leaf_of}
use Rattle.keys.specs.declared.limits.TheConstants.{LAST_EPOCH}

-- the state that every server keeps: no serial is twice in it, and the keys of the nodes agree with
-- the epoch and with the cradles
pub record IsSoundServer (s : State) : Type 0 where
  -- 128 cradles, and 256 nodes, of which 0 is none
  pub cradle_count : length s.cradles ≡ CRADLES
  pub node_count : length s.nodes ≡ 256
  -- each key has 32 bytes
  pub keys_sized : (n : ℕ) → IsSized 32 (keys_in s.nodes n).key
  -- the epoch is at most the last
  pub epoch_range : s.epoch ≤ LAST_EPOCH
  -- no serial is in two cradles
  pub seats_apart : (c d x : ℕ) → IsCradle c → IsCradle d →
      occupant (cradle s c) ≡ Some x → occupant (cradle s d) ≡ Some x → c ≡ d
  -- nor will it be once the notes are carried out
  pub holders_apart : (c d x : ℕ) → IsCradle c → IsCradle d →
      holder (cradle s c) ≡ Some x → holder (cradle s d) ≡ Some x → c ≡ d
  -- the root's epoch is the server's
  pub root_epoch : (keys_in s.nodes 1).made ≡ s.epoch
  -- no node's key is older than that of a node beneath it
  pub epochs_rise : (m n : ℕ) → 0 < n → IsBeneath m n →
      (keys_in s.nodes m).made ≤ (keys_in s.nodes n).made
  -- the leaf of a cradle with nobody in it has a key that was never made
  pub empty_leaves : (c : ℕ) → IsCradle c →
      occupant (cradle s c) ≡ None → keys_in s.nodes (leaf_of c) ≡ unmade_key
  -- the leaf of a scanner that is in its cradle has a key that was made
  pub seated_leaves : (c x : ℕ) → IsCradle c →
      occupant (cradle s c) ≡ Some x → 1 ≤ (keys_in s.nodes (leaf_of c)).made
