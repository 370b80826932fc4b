-- A block that is added to the end of a string, and taken back.
use Rattle.std.proofs.Common.{◌≡◌, ℕ, ◌-◌, List, ◌++◌, length, take, drop, ap, ◌∙◌, ap₂, arith}
use borrow.Rule.Slice.PartMut.{put_mid}
use Rattle.std.proofs.lemmas.List.{length-append, length-drop, length-take-le, take_at, drop_at, take-append-drop}
use Rattle.byte_strings.specs.Strings.{xors}
use Rattle.byte_strings.proofs.Xors.{xors_xors, xors_length}
use Rattle.byte_strings.proofs.Tails.{tail_added}
use Rattle.wrap_rules.specs.S2v.{xorend}

-- adding a block to the last 16 bytes, in place, is xorend
pub end_added : (s d ys : List ℕ) → ys ≡ xors (take (length s - (length s - 16)) (drop (length s - 16) s)) d →
    put_mid (length s - 16) (length s - (length s - 16)) s ys ≡ xorend s d
unfolding xorend
end_added s d ys e = tail_added (length s - 16) s d ys e

-- a block added to the end leaves the length
pub xorend_length : (s d : List ℕ) → length (xorend s d) ≡ length s
unfolding xorend
xorend_length s d =
    let n = length s - 16 in
    length-append (take n s) (xors (drop n s) d) ∙ omega (arith, xors_length (drop n s) d, length-drop n s, length-take-le n s (omega arith))

-- a block that is added to the end twice is gone
xorend_xorend : (s d : List ℕ) → xorend (xorend s d) d ≡ s
unfolding xorend
xorend_xorend s d =
    let n = length s - 16 in
    let p = take n s in
    let x = xors (drop n s) d in
    let long : length p ≡ n = length-take-le n s (omega arith) in
    ap (λ (k : ℕ). take (k - 16) (p ++ x) ++ xors (drop (k - 16) (p ++ x)) d) (xorend_length s d)
    ∙ ap₂ (λ (a b : List ℕ). a ++ xors b d) (take_at p x n long) (drop_at p x n long)
    ∙ ap (λ (u : List ℕ). p ++ u) (xors_xors (drop n s) d)
    ∙ take-append-drop n s

-- the same block, added once more, is gone
pub end_restored : (s d ys : List ℕ) → ys ≡ xors (take (length s - (length s - 16)) (drop (length s - 16) s)) d →
    xorend (put_mid (length s - 16) (length s - (length s - 16)) s ys) d ≡ s
end_restored s d ys e = ap (λ (u : List ℕ). xorend u d) (end_added s d ys e) ∙ xorend_xorend s d
