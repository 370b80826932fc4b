-- Which files there are; that each is read back from its bytes, and that nothing else is accepted.
use Rattle.std.specs.Prelude.{◌≡◌, ℕ, ◌<◌, ◌≤◌, List, [], ◌∷◌, length, Contains, None}
use Rattle.byte_strings.specs.Strings.{IsBytes, IsSized}
use Rattle.tree.specs.declared.limits.TheConstants.{MOST_PAIRS}
use Rattle.tree.specs.declared.types.Code.{Code}
use Rattle.tree.specs.declared.types.Pair.{Pair}
use Rattle.tree.specs.Tree.{IsWithin}
use Rattle.tree.specs.Rows.{is_stay_code, stands_within, is_changed, is_occupied, changed_nodes}
use Rattle.tree.specs.Plans.{IsLawfulPlan}
use Rattle.keys.specs.declared.limits.TheConstants.{LAST_EPOCH}
use Rattle.keys.specs.Names.{Keys}
use Rattle.wrap.specs.Meaning.{Sealing}
use Rattle.file_rules.specs.Files.{WrappedKey, Rekey, file_bytes, file_size}
use Rattle.file_rules.specs.Layout.{layout_fault}
use Rattle.file_rules.specs.Reading.{parsed_file}
use Rattle.file_rules.specs.Sealing.{rekey_of}
use Rattle.std.specs.Prelude.{IsTrue}

-- strictly falling from below b, and ending with 1
abbrev pub Falls : ℕ → List ℕ → Type 0
Falls b [] = ⊥
Falls b (n ∷ []) = (n < b) × (n ≡ 1)
Falls b (n ∷ m ∷ ns) = (n < b) × Falls n (m ∷ ns)

-- a wrap that may stand in a file of that epoch with these changed nodes
pub record IsSoundWrap (L epoch : ℕ) (nodes : List ℕ) (w : WrappedKey) : Type 0 where
  pub opener_range : (1 ≤ w.opener.node) × (w.opener.node ≤ 255)
  -- its opener's key is not younger than the file
  pub opener_epoch : (1 ≤ w.opener.epoch) × (w.opener.epoch ≤ epoch)
  pub content_listed : Contains nodes w.content
  pub opener_within : IsWithin w.opener.node w.content
  -- a node's own key opens its new key only if it was made in an earlier epoch
  pub own_key_earlier : w.opener.node ≡ w.content → w.opener.epoch < epoch
  pub sealed_bytes : IsSized L w.sealed_key

-- a file whose values are in range and fit together: exactly the files whose bytes are accepted
pub record IsSoundFile (L : ℕ) (f : Rekey) : Type 0 where
  pub kind_range : (1 ≤ f.kind) × (f.kind ≤ 255)
  pub epoch_range : (1 ≤ f.epoch) × (f.epoch ≤ LAST_EPOCH)
  -- the changed nodes are inner nodes, each once, and node 1 is the last
  pub nodes_fall : Falls 128 f.nodes
  pub few_wraps : length f.wraps ≤ MOST_PAIRS
  pub each_wrap : (w : WrappedKey) → Contains f.wraps w → IsSoundWrap L f.epoch f.nodes w

-- the bytes of a file are accepted, and are read back as the file
pub record RoundTrips (L : ℕ) (f : Rekey) : Type 0 where
  -- each number that is written is below 256
  pub bytes : IsBytes (file_bytes f)
  pub size : length (file_bytes f) ≡ file_size L (length f.nodes) (length f.wraps)
  pub accepts : layout_fault f.kind L (file_bytes f) ≡ None
  pub reads_back : parsed_file L (file_bytes f) ≡ f

-- the bytes are those of a sound file of that kind
pub record WasWritten (kind L : ℕ) (bs : List ℕ) : Type 0 where
  pub sound : IsSoundFile L (parsed_file L bs)
  pub same_kind : (parsed_file L bs).kind ≡ kind
  -- there is no other way to write that file
  pub was_written : file_bytes (parsed_file L bs) ≡ bs

-- the keys before and after a change, where the change begins that epoch, were made in time
pub record IsTimely (row : List Code) (epoch : ℕ) (former present : Keys) : Type 0 where
  -- every key has 32 bytes, before the change and after it
  pub former_keys : (n : ℕ) → n < 256 → IsSized 32 (former n).key
  pub present_keys : (n : ℕ) → n < 256 → IsSized 32 (present n).key
  -- an occupied node has a key after the change
  pub present_made : (n : ℕ) → n < 256 → IsTrue (is_occupied row n) →
      (1 ≤ (present n).made) × ((present n).made ≤ epoch)
  -- a node with somebody beneath it who stays had a key before the change
  pub former_made : (n : ℕ) → n < 256 → IsTrue (stands_within is_stay_code row n) →
      (1 ≤ (former n).made) × ((former n).made < epoch)

-- a sealing gives L bytes
abbrev pub SealsTo : ℕ → Sealing → Type 0
SealsTo L seals =
    (k n c : List ℕ) → IsSized 32 k → IsSized 10 n → IsSized 32 c → IsSized L (seals k n c)

-- what is proved of rekey files, for wraps of any kind and any number of sealed bytes L
pub record FileLaws : Type 0 where
  -- what was written is read back
  pub sound_round_trips : (L : ℕ) (f : Rekey) → IsSoundFile L f → RoundTrips L f
  -- what is accepted was written, where the kind in use is 1 or more
  pub accepted_was_written : (kind L : ℕ) (bs : List ℕ) → 1 ≤ kind → IsBytes bs →
      layout_fault kind L bs ≡ None → WasWritten kind L bs
  -- the file of a lawful plan is sound, for any wrap, and so it is read back
  pub plan_is_sound : (kind L : ℕ) (seals : Sealing) → (1 ≤ kind) × (kind ≤ 255) →
      SealsTo L seals → (row : List Code) (plan : List Pair) (epoch : ℕ) (former present : Keys) →
      IsTrue (is_changed row 1) → IsLawfulPlan row plan → (1 ≤ epoch) × (epoch ≤ LAST_EPOCH) →
      IsTimely row epoch former present →
      IsSoundFile L (rekey_of kind seals epoch (changed_nodes row) plan former present)
