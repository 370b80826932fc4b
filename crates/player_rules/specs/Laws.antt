-- What a player finds and reads, and what its refusals keep.
use Rattle.std.specs.Prelude.{◌≡◌, ℕ, ◌<◌, ◌≤◌, ◌↔◌, List, length, Some, None, Ok, Err}
use Rattle.std.specs.Prelude.{slice_index_or, IsTrue}
use Rattle.refusal.specs.Refusals.{Refusal}
use Rattle.tree.specs.Tree.{IsLeaf, ancestor}
use Rattle.keys.specs.declared.NodeKey.{NodeKey}
use Rattle.keys.specs.Names.{Keys, keys_in}
use Rattle.file_rules.specs.Files.{WrappedKey, Rekey}
use Rattle.wrap.specs.Meaning.{WrapMeaning}
use Rattle.player_rules.specs.Rings.{ring_bytes, path_entries}
use Rattle.player_rules.specs.Searches.{OpenableWrap, openable_wrap}
use Rattle.player_rules.specs.Climbs.{no_wrap, ring_after_file}
use Rattle.player_rules.specs.Ways.{IsRingAtLevel, Stops}
use Rattle.player_rules.specs.Players.{show_verdict, PlayerCall, Player, is_player_refused}
use Rattle.player_rules.specs.Players.{player_after, ring_after}

-- the wrap of index i has the node's key as its content, and entry k of the ring is its opener, by
-- node and epoch
pub record Opens (ring : List NodeKey) (leaf node : ℕ) (wraps : List WrappedKey) (i k : ℕ)
    : Type 0 where
  pub in_file : i < length wraps
  pub in_ring : k < 8
  pub content : (slice_index_or wraps i no_wrap).content ≡ node
  pub opener_node : ancestor k leaf ≡ (slice_index_or wraps i no_wrap).opener.node
  pub opener_epoch : (keys_in ring k).made ≡ (slice_index_or wraps i no_wrap).opener.epoch

-- what holds of every player
pub record PlayerLaws : Type 0 where
  -- what the search finds opens
  pub found_opens : (ring : List NodeKey) (leaf node : ℕ) (wraps : List WrappedKey)
      (it : OpenableWrap) → openable_wrap ring leaf node 0 wraps ≡ Some it →
      Opens ring leaf node wraps it.wrap it.entry
  -- and no wrap before it does
  pub found_first : (ring : List NodeKey) (leaf node : ℕ) (wraps : List WrappedKey)
      (it : OpenableWrap) → openable_wrap ring leaf node 0 wraps ≡ Some it →
      (i k : ℕ) → Opens ring leaf node wraps i k → it.wrap ≤ i
  -- if the search finds none, none opens
  pub none_opens : (ring : List NodeKey) (leaf node : ℕ) (wraps : List WrappedKey) →
      openable_wrap ring leaf node 0 wraps ≡ None →
      (i k : ℕ) → Opens ring leaf node wraps i k → ⊥
  -- with any file and a ring of eight entries: the way up is done exactly where the rule comes
  -- through, and makes of the ring what the rule makes of it
  pub way_up : (w : WrapMeaning) (f : Rekey) (leaf : ℕ) (old : List NodeKey) → length old ≡ 8 →
      (new : List NodeKey) →
      (ring_after_file w f leaf old ≡ Ok new) ↔ IsRingAtLevel w f leaf old 8 new
  -- and it is refused exactly where the rule stops, with that refusal
  pub way_stops : (w : WrapMeaning) (f : Rekey) (leaf : ℕ) (old : List NodeKey) → length old ≡ 8 →
      (r : Refusal) → (ring_after_file w f leaf old ≡ Err r) ↔ Stops w f leaf old r
  -- a refused call leaves the player and its ring as they were
  pub refused_keeps : (a : PlayerCall) (p : Player) (ring : List ℕ) →
      IsTrue (is_player_refused a p ring) →
      (player_after a p ring ≡ p) × (ring_after a p ring ≡ ring)
  -- a ring that holds the keys of all nodes from a leaf to the root shows the root's
  pub shows_root : (keys : Keys) (leaf : ℕ) → IsLeaf leaf → ((n : ℕ) → length (keys n).key ≡ 32) →
      show_verdict (ring_bytes (path_entries keys leaf)) ≡ Ok (keys 1).key
