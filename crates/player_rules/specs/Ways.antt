-- The rule for the way up through a file, beside the definition that computes it. A player goes
-- from the leaf's parent to the root. For each listed node it takes the first wrap with that
-- content whose opener, by node and epoch, is in the ring as updated so far.
use Rattle.std.specs.Prelude.{◌≡◌, ℕ, ◌<◌, ◌≤◌, ◌⊎◌, List, [], ◌∷◌, ◌++◌, length, take, drop, Some}
use Rattle.std.specs.Prelude.{None, Contains}
use Rattle.refusal.specs.Refusals.{Refusal, refusal_with}
use Rattle.tree.specs.Tree.{ancestor}
use Rattle.keys.specs.declared.NodeKey.{NodeKey}
use Rattle.keys.specs.Names.{keys_in}
use Rattle.file_rules.specs.Files.{Rekey}
use Rattle.wrap.specs.Meaning.{WrapMeaning}
use Rattle.player_rules.specs.Searches.{OpenableWrap, openable_wrap}
use Rattle.player_rules.specs.Climbs.{wrap_content, wrap_by_index}

-- the ring as updated so far: its first k entries are new, and the others are old
abbrev pub ring_so_far : ℕ → List NodeKey → List NodeKey → List NodeKey
ring_so_far k new old = take k new ++ drop k old

-- the entry that the listed node k halvings up gets, where the player has that ring
pub record IsRenewed (w : WrapMeaning) (f : Rekey) (leaf k : ℕ) (ring : List NodeKey)
    (entry : NodeKey) : Type 0 where
  -- the first wrap with that content whose opener is in the ring
  pub it : OpenableWrap
  pub is_first : openable_wrap ring leaf (ancestor k leaf) 0 f.wraps ≡ Some it
  -- what it opens to is the key, and it was made in the file's epoch
  pub content :
      wrap_content w f.epoch (keys_in ring it.entry).key (wrap_by_index f it.wrap)
      ≡ Some entry.key
  pub made : entry.made ≡ f.epoch

-- what the way up makes of a ring, as far as the node k halvings up, which it comes to next; it has
-- come through with k = 8
pub record IsRingAtLevel (w : WrapMeaning) (f : Rekey) (leaf : ℕ) (old : List NodeKey) (k : ℕ)
    (new : List NodeKey) : Type 0 where
  -- there are as many entries, and those from that node's on are as they were
  pub size : length new ≡ length old
  pub rest_stays : drop k new ≡ drop k old
  -- the leaf's entry stays, and so does that of each node that is not listed
  pub leaf_stays : keys_in new 0 ≡ keys_in old 0
  pub unlisted_stays : (j : ℕ) → 1 ≤ j → j < k → (Contains f.nodes (ancestor j leaf) → ⊥) →
      keys_in new j ≡ keys_in old j
  -- the entry of each listed node is renewed by the ring as updated so far
  pub listed_renewed : (j : ℕ) → 1 ≤ j → j < k → Contains f.nodes (ancestor j leaf) →
      IsRenewed w f leaf j (ring_so_far j new old) (keys_in new j)

-- no wrap of that node has its opener in the ring: 19 with the node
abbrev pub IsShutOut : Rekey → ℕ → ℕ → List NodeKey → Refusal → Type 0
IsShutOut f leaf node ring r =
    (openable_wrap ring leaf node 0 f.wraps ≡ None) × (r ≡ refusal_with 19 (node ∷ []))

-- the first wrap of that node that has its opener in the ring does not open: 18 with the wrap's
-- index and the file's epoch
pub record FirstDoesNotOpen (w : WrapMeaning) (f : Rekey) (leaf node : ℕ) (ring : List NodeKey)
    (r : Refusal) : Type 0 where
  pub it : OpenableWrap
  pub is_first : openable_wrap ring leaf node 0 f.wraps ≡ Some it
  pub unopened :
      wrap_content w f.epoch (keys_in ring it.entry).key (wrap_by_index f it.wrap)
      ≡ None
  pub is_refusal : r ≡ refusal_with 18 (it.wrap ∷ f.epoch ∷ [])

-- the two reasons why the way up stops at a listed node
abbrev pub StopsWith : WrapMeaning → Rekey → ℕ → ℕ → List NodeKey → Refusal → Type 0
StopsWith w f leaf node ring r =
    IsShutOut f leaf node ring r ⊎ FirstDoesNotOpen w f leaf node ring r

-- where the way up stops, and with which refusal
pub record Stops (w : WrapMeaning) (f : Rekey) (leaf : ℕ) (old : List NodeKey) (r : Refusal)
    : Type 0 where
  -- at a listed node so many halvings up
  pub level : ℕ
  pub on_the_way : (1 ≤ level) × (level < 8)
  pub is_listed : Contains f.nodes (ancestor level leaf)
  -- with the ring that the way up had made until then
  pub ring : List NodeKey
  pub until_then : IsRingAtLevel w f leaf old level ring
  -- for one of the two reasons
  pub why : StopsWith w f leaf (ancestor level leaf) ring r
