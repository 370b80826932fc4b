-- A tag is a block: 16 numbers for any cipher that answers so many, and bytes where the cipher keeps bytes.
use Rattle.std.proofs.Common.{◌≡◌, ℕ, zero, suc, ◌+◌, ◌-◌, ◌*◌, ◌/◌, ◌^◌, ◌<◌, ◌≤◌, Bool, true, false, cond, List, ◌∷◌, length, take, drop, replicate, refl, ap}
use Rattle.std.proofs.Common.{◌∙◌, arith, lit<, eqb-true}
use borrow.Author.Tests.{eqb-false}
use Rattle.std.proofs.lemmas.Nat.{mod_below}
use Rattle.std.proofs.lemmas.List.{length-drop, length-append, length-replicate}
use Rattle.byte_strings.specs.Strings.{IsBytes, IsSized, xors}
use Rattle.byte_strings.proofs.Parts.{append_bytes, take_bytes, drop_bytes, replicate_bytes}
use Rattle.byte_strings.proofs.Xors.{xors_sized}
use Rattle.cmac.specs.Blocks.{number_of, bytes_of, times_x, dbl}
use Rattle.cmac.specs.Cmac.{zeros, k1, k2, padding, is_whole, m_last, blocks_before_last, chain, cmac}

-- any number, written as n bytes, is n bytes
pub bytes_of_sized : (n v : ℕ) → IsSized n (bytes_of n v)
bytes_of_sized zero v = (refl, tt)
bytes_of_sized (suc n) v = (ap suc (bytes_of_sized n v).0, (mod_below (v / 256 ^ n) 256 (lit< tt), (bytes_of_sized n v).1))

-- a block that is doubled is a block of bytes
pub dbl_sized : (b : List ℕ) → IsSized 16 (dbl b)
unfolding dbl
dbl_sized b = bytes_of_sized 16 (times_x (number_of 16 b))

-- a string of fewer than 16 bytes, padded, is a block of bytes
pub padding_sized : (m : List ℕ) → length m < 16 → IsBytes m → IsSized 16 (padding m)
unfolding padding
padding_sized m l h = (
  length-append m (0x80 ∷ replicate (15 - length m) 0) ∙ omega (arith, length-replicate {A = ℕ} (15 - length m) 0),
  append_bytes m (0x80 ∷ replicate (15 - length m) 0) h (lit< tt, replicate_bytes (15 - length m) 0 (lit< tt)),
)

-- the zero block is a block of bytes
pub zeros_sized : IsSized 16 zeros
zeros_sized = (refl, replicate_bytes 16 0 (lit< tt))

module _ (e : List ℕ → List ℕ) (long : (s : List ℕ) → length (e s) ≡ 16) where
  -- the chain ends in 16 numbers
  chain_length : (n : ℕ) (x m : List ℕ) → length (chain e n x m) ≡ 16
  unfolding chain
  chain_length zero x m = long (xors (m_last e m) x)
  chain_length (suc n) x m = chain_length n (e (xors x (take 16 m))) (drop 16 m)

  -- a tag has 16 numbers
  pub cmac_length : (m : List ℕ) → length (cmac e m) ≡ 16
  unfolding cmac
  cmac_length m = chain_length (blocks_before_last (length m)) zeros m

module _ (e : List ℕ → List ℕ) (stays : (s : List ℕ) → IsSized 16 s → IsSized 16 (e s)) where
  -- the first subkey is a block of bytes
  k1_sized : IsSized 16 (k1 e)
  k1_sized = dbl_sized (e zeros)

  -- the second subkey is a block of bytes
  k2_sized : IsSized 16 (k2 e)
  k2_sized = dbl_sized (k1 e)

  -- the last block, with its subkey added, is a block of bytes
  last_sized : (m : List ℕ) → length m ≤ 16 → IsBytes m → IsSized 16 (m_last e m)
  unfolding m_last
  last_sized m l h = go (is_whole m) refl
    where
      go : (b : Bool) → is_whole m ≡ b → IsSized 16 (cond b (xors m (k1 e)) (xors (padding m) (k2 e)))
      go true t = xors_sized 16 m (k1 e) (eqb-true (length m) 16 t, h) k1_sized.1
      go false t =
          let less : length m < 16 = omega (arith, eqb-false (length m) 16 t) in
          xors_sized 16 (padding m) (k2 e) (padding_sized m less h) k2_sized.1

  -- the chain over a string of bytes ends in a block of bytes
  chain_sized : (n : ℕ) (x m : List ℕ) → length m ≤ 16 * n + 16 → IsSized 16 x → IsBytes m → IsSized 16 (chain e n x m)
  unfolding chain
  chain_sized zero x m l hx h = stays (xors (m_last e m) x) (xors_sized 16 (m_last e m) x (last_sized m l h) hx.1)
  chain_sized (suc n) x m l hx h =
      chain_sized n (e (xors x (take 16 m))) (drop 16 m) (omega (arith, length-drop 16 m))
      (stays (xors x (take 16 m)) (xors_sized 16 x (take 16 m) hx (take_bytes 16 m h))) (drop_bytes 16 m h)

  -- the tag of a string of bytes is a block of bytes
  pub cmac_sized : (m : List ℕ) → IsBytes m → IsSized 16 (cmac e m)
  unfolding cmac
  cmac_sized m h = chain_sized (blocks_before_last (length m)) zeros m (omega arith) zeros_sized h
