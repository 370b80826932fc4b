-- Wraps that were written are read back, and pass the check of a file.
use Rattle.std.proofs.Common.{◌≡◌, ℕ, ◌+◌, ◌*◌, ◌<◌, ◌≤◌, not, ◌||◌, nat_eq, nat_lt, ◌==◌, true, List, [], ◌∷◌, ◌++◌, length, take, drop, inl, inr, refl, ap}
use Rattle.std.proofs.Common.{◌∙◌, suc-mul, arith}
use Rattle.std.specs.List.{flat_map}
use Rattle.std.proofs.lemmas.Bool.{and_from, eq-eqb, le-leb}
use Rattle.std.proofs.lemmas.List.{take_at, drop_at, length-append}
use Rattle.byte_strings.specs.Numbers.{byte_at, be_number4}
use Rattle.byte_strings.specs.Strings.{IsBytes, part}
use Rattle.byte_strings.proofs.Parts.{append_bytes}
use Rattle.tree.proofs.Halvings.{within_from}
use Rattle.tree.proofs.Members.{In, contains_in, some_from}
use Rattle.keys.specs.Names.{name_bytes}
use Rattle.file_rules.specs.Fields.{FileField}
use Rattle.file_rules.specs.Files.{WrappedKey, wrap_bytes}
use Rattle.file_rules.specs.Layout.{lists, is_valid_content, wrap_fields, wraps_fields}
use Rattle.std.specs.Int.{is_in_range}
use Rattle.file_rules.specs.Reading.{wrap_at, wraps_from}
use Rattle.file_rules.specs.Laws.{IsSoundWrap}
use Rattle.file_rules.proofs.Places.{at_first, at_place, further, number4_at, big4_back, big4_bytes}
use Rattle.file_rules.proofs.Passing.{AllPass}

-- a wrap has six bytes besides the sealed ones
pub wrap_long : (w : WrappedKey) (L : ℕ) → length w.sealed_key ≡ L → length (wrap_bytes w) ≡ 6 + L
wrap_long w L h = omega arith

-- each node of the list passes as listed
pub in_listed : (nodes : List ℕ) (v : ℕ) → In v nodes → lists nodes v ≡ true
in_listed nodes v h = some_from (λ n. nat_eq n v) nodes v h (eq-eqb v v refl)

-- the content of a sound wrap passes the check, where no node is 0
content_passes : (L epoch : ℕ) (nodes : List ℕ) (w : WrappedKey) → ((x : ℕ) → In x nodes → 0 < x) →
    IsSoundWrap L epoch nodes w → is_valid_content epoch nodes w.opener w.content ≡ true
content_passes L epoch nodes w nodes_lem s =
    let below : w.opener.node < 256 = omega (arith, s.opener_range.1) in
    let listed = contains_in nodes w.content s.content_listed in
    let under = within_from w.opener.node w.content below (nodes_lem w.content listed) s.opener_within in
    let earlier = s.own_key_earlier in
    let own : not (w.opener.node == w.content) || nat_lt w.opener.epoch epoch ≡ true = grind arith in
    and_from _ _ (in_listed nodes w.content listed) (and_from _ _ under own)

-- a value from low to high passes
pub in_range : (low high v : ℕ) → low ≤ v → v ≤ high → is_in_range low high v ≡ true
in_range low high v a b = grind arith

module _ (L epoch : ℕ) (nodes : List ℕ) (small : epoch ≤ 1000000) (nodes_lem : (n : ℕ) → In n nodes → 0 < n) (bs : List ℕ) where
  -- what stands where a wrap was written
  wrap_there : (at : ℕ) (w : WrappedKey) (rest : List ℕ) → IsSoundWrap L epoch nodes w → drop at bs ≡ wrap_bytes w ++ rest → wrap_at L bs at ≡ w
  wrap_there at w rest s e =
      let wrap : List ℕ = wrap_bytes w ++ rest in
      let node : byte_at bs at ≡ w.opener.node = at_first bs wrap at e in
      let made : be_number4 bs (at + 1) ≡ w.opener.epoch =
      number4_at bs _ (at + 1) (further bs wrap at e 1)
      ∙ big4_back w.opener.epoch (w.content ∷ w.sealed_key ++ rest) (omega (arith, s.opener_epoch.1)) in
      let content : byte_at bs (at + 5) ≡ w.content = at_place bs wrap at e 5 in
      let key : part L (at + 6) bs ≡ w.sealed_key = ap (take L) (further bs wrap at e 6) ∙ take_at w.sealed_key rest L s.sealed_bytes.0 in
      λ i. record { opener = record { node = node i; epoch = made i }; content = content i; sealed_key = key i }

  -- its fields pass, and so do those that follow it
  wrap_passes : (at : ℕ) (w : WrappedKey) (more : List FileField) → IsSoundWrap L epoch nodes w → wrap_at L bs at ≡ w → at + (6 + L) ≤ length bs →
      AllPass (length bs) more → AllPass (length bs) (wrap_fields L epoch nodes bs at ++ more)
  wrap_passes at w more s e l rest =
      let node = ap (λ v. is_in_range 1 255 v.opener.node) e ∙ in_range 1 255 w.opener.node s.opener_range.0 s.opener_range.1 in
      let made = ap (λ v. is_in_range 1 epoch v.opener.epoch) e ∙ in_range 1 epoch w.opener.epoch s.opener_epoch.0 s.opener_epoch.1 in
      let content = ap (λ v. is_valid_content epoch nodes v.opener v.content) e ∙ content_passes L epoch nodes w nodes_lem s in
      (omega arith, (node, (omega arith, (made, (omega arith, (content, (omega arith, (refl, rest))))))))

  -- wraps that were written up to the end pass, and are read back
  pub wraps_back : (at : ℕ) (ws : List WrappedKey) → ((w : WrappedKey) → In w ws → IsSoundWrap L epoch nodes w) →
      drop at bs ≡ flat_map wrap_bytes ws → at + length ws * (6 + L) ≡ length bs →
      AllPass (length bs) (wraps_fields L epoch nodes bs at (length ws)) × (wraps_from L bs at (length ws) ≡ ws)
  wraps_back at [] s e l = ((omega arith, (le-leb (length bs) at (omega arith), tt)), refl)
  wraps_back at (w ∷ ws) s e l =
      let here = s w (inl refl) in
      let there : wrap_at L bs at ≡ w = wrap_there at w (flat_map wrap_bytes ws) here e in
      let long : at + (6 + L) + length ws * (6 + L) ≡ length bs = omega (arith, suc-mul (length ws) (6 + L)) in
      let next : drop (at + (6 + L)) bs ≡ flat_map wrap_bytes ws =
      further bs (wrap_bytes w ++ flat_map wrap_bytes ws) at e (6 + L)
      ∙ drop_at (wrap_bytes w) (flat_map wrap_bytes ws) (6 + L) (wrap_long w L here.sealed_bytes.0) in
      let more = wraps_back (at + (6 + L)) ws (λ v i. s v (inr i)) next long in
      (wrap_passes at w _ here there (omega arith) more.0, λ i. there i ∷ more.1 i)

-- wraps with L sealed bytes have 6 + L bytes each
pub wraps_long : (L : ℕ) (ws : List WrappedKey) → ((w : WrappedKey) → In w ws → length w.sealed_key ≡ L) → length (flat_map wrap_bytes ws) ≡ length ws * (6 + L)
wraps_long L [] s = omega arith
wraps_long L (w ∷ ws) s =
    length-append (wrap_bytes w) (flat_map wrap_bytes ws)
    ∙ omega (arith, wrap_long w L (s w (inl refl)), wraps_long L ws (λ v i. s v (inr i)), suc-mul (length ws) (6 + L))

-- each of some bytes is below 256
pub bytes_in : (ns : List ℕ) → IsBytes ns → (n : ℕ) → In n ns → n < 256
bytes_in [] b n h = absurd h
bytes_in (x ∷ ns) b n (inl e) = omega (arith, b.0)
bytes_in (x ∷ ns) b n (inr h) = bytes_in ns b.1 n h

-- all bytes of sound wraps are below 256
pub bytes_of_wraps : (L epoch : ℕ) (nodes : List ℕ) → IsBytes nodes → (ws : List WrappedKey) →
    ((w : WrappedKey) → In w ws → IsSoundWrap L epoch nodes w) → IsBytes (flat_map wrap_bytes ws)
bytes_of_wraps L epoch nodes b [] s = tt
bytes_of_wraps L epoch nodes b (w ∷ ws) s =
    let here = s w (inl refl) in
    let name : IsBytes (name_bytes w.opener) = (omega (arith, here.opener_range.1), big4_bytes w.opener.epoch) in
    let content = bytes_in nodes b w.content (contains_in nodes w.content here.content_listed) in
    append_bytes (wrap_bytes w) (flat_map wrap_bytes ws)
    (append_bytes (name_bytes w.opener) (w.content ∷ w.sealed_key) name (content, here.sealed_bytes.1))
    (bytes_of_wraps L epoch nodes b ws (λ v i. s v (inr i)))
