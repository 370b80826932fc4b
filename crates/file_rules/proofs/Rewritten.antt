-- What stands in bytes is written as the bytes that it was read from.
use Rattle.std.proofs.Common.{◌≡◌, ℕ, zero, suc, ◌+◌, ◌*◌, ◌/◌, ◌%◌, ◌<◌, ◌≤◌, List, [], ◌∷◌, ◌++◌, length, take, drop, sym, refl, ap, ◌∙◌, ap₂, suc-mul, arith}
use Rattle.std.specs.List.{flat_map}
use Rattle.std.proofs.lemmas.List.{drop_more, take-append-drop, drop-drop, drop_all, length-drop, length-take-le}
use Rattle.byte_strings.specs.Numbers.{be_bytes2, be_bytes4, byte_at, be_number2, be_number4}
use Rattle.byte_strings.specs.Strings.{IsBytes}
use Rattle.byte_strings.proofs.Parts.{at_byte}
use Rattle.file_rules.specs.Files.{head_bytes, nodes_bytes, wrap_bytes, file_bytes, file_size}
use Rattle.file_rules.specs.Layout.{nodes_of, wrap_count}
use Rattle.file_rules.specs.Reading.{wrap_at, wraps_from, parsed_file}

-- the number that two bytes make is written as these bytes
pub big2_joined : (a b : ℕ) → a < 256 → b < 256 → be_bytes2 (a * 256 + b) ≡ a ∷ b ∷ []
big2_joined a b ha hb =
    let p : (a * 256 + b) / 256 % 256 ≡ a = omega arith in
    let q : (a * 256 + b) % 256 ≡ b = omega arith in
    cc

-- the number that four bytes make is written as these bytes
pub big4_joined : (a b c d : ℕ) → a < 256 → b < 256 → c < 256 → d < 256 → be_bytes4 (a * 16777216 + b * 65536 + c * 256 + d) ≡ a ∷ b ∷ c ∷ d ∷ []
big4_joined a b c d ha hb hc hd =
    let n = a * 16777216 + b * 65536 + c * 256 + d in
    let p : n / 16777216 % 256 ≡ a = omega arith in
    let q : n / 65536 % 256 ≡ b = omega arith in
    let r : n / 256 % 256 ≡ c = omega arith in
    let s : n % 256 ≡ d = omega arith in
    cc

-- one byte of what is left, from a place on
pub drop_byte : (bs : List ℕ) (p q : ℕ) → p + 1 ≡ q → p < length bs → drop p bs ≡ byte_at bs p ∷ drop q bs
drop_byte bs p q e h = drop_more bs p 0 h ∙ ap (λ k. byte_at bs p ∷ drop k bs) e

-- two bytes of what is left, as their number is written
pub drop_big2 : (bs : List ℕ) (p q : ℕ) → p + 2 ≡ q → IsBytes bs → q ≤ length bs → drop p bs ≡ be_bytes2 (be_number2 bs p) ++ drop q bs
drop_big2 bs p q e hb h =
    drop_byte bs p (p + 1) refl (omega arith)
    ∙ ap (λ l. byte_at bs p ∷ l) (drop_byte bs (p + 1) q (omega arith) (omega arith))
    ∙ ap (λ l. l ++ drop q bs) (sym (big2_joined _ _ (at_byte bs p hb) (at_byte bs (p + 1) hb)))

-- four bytes of what is left, as their number is written
pub drop_big4 : (bs : List ℕ) (p q : ℕ) → p + 4 ≡ q → IsBytes bs → q ≤ length bs → drop p bs ≡ be_bytes4 (be_number4 bs p) ++ drop q bs
drop_big4 bs p q e hb h =
    drop_byte bs p (p + 1) refl (omega arith)
    ∙ ap (λ l. byte_at bs p ∷ l) (drop_byte bs (p + 1) (p + 2) (omega arith) (omega arith)
    ∙ ap (λ l. byte_at bs (p + 1) ∷ l) (drop_byte bs (p + 2) (p + 3) (omega arith) (omega arith)
    ∙ ap (λ l. byte_at bs (p + 2) ∷ l) (drop_byte bs (p + 3) q (omega arith) (omega arith))))
    ∙ ap (λ l. l ++ drop q bs) (sym (big4_joined _ _ _ _ (at_byte bs p hb) (at_byte bs (p + 1) hb) (at_byte bs (p + 2) hb) (at_byte bs (p + 3) hb)))

-- n bytes of what is left, as they stand there
pub drop_part : (bs : List ℕ) (p n q : ℕ) → p + n ≡ q → drop p bs ≡ take n (drop p bs) ++ drop q bs
drop_part bs p n q e = sym (take-append-drop n (drop p bs)) ∙ ap (λ l. take n (drop p bs) ++ l) (drop-drop n p bs ∙ ap (λ k. drop k bs) e)

-- one wrap of what is left, as it is written
pub drop_wrap : (L : ℕ) (bs : List ℕ) (p : ℕ) → IsBytes bs → p + (6 + L) ≤ length bs → drop p bs ≡ wrap_bytes (wrap_at L bs p) ++ drop (p + (6 + L)) bs
drop_wrap L bs p hb h =
    drop_byte bs p (p + 1) refl (omega arith)
    ∙ ap (λ l. byte_at bs p ∷ l) (drop_big4 bs (p + 1) (p + 5) (omega arith) hb (omega arith)
    ∙ ap (λ l. be_bytes4 (be_number4 bs (p + 1)) ++ l) (drop_byte bs (p + 5) (p + 6) (omega arith) (omega arith)
    ∙ ap (λ l. byte_at bs (p + 5) ∷ l) (drop_part bs (p + 6) L (p + (6 + L)) (omega arith))))

-- wraps up to the end
pub drop_wraps : (L : ℕ) (bs : List ℕ) (p k : ℕ) → IsBytes bs → p + k * (6 + L) ≡ length bs → drop p bs ≡ flat_map wrap_bytes (wraps_from L bs p k)
drop_wraps L bs p zero hb e = drop_all p bs (omega arith)
drop_wraps L bs p (suc k) hb e =
    let more : k * (6 + L) + (6 + L) ≡ suc k * (6 + L) = omega (arith, suc-mul k (6 + L)) in
    drop_wrap L bs p hb (omega arith)
    ∙ ap (λ l. wrap_bytes (wrap_at L bs p) ++ l) (drop_wraps L bs (p + (6 + L)) k hb (omega arith))

-- the head, as it is written with the kind and the epoch that were read
pub drop_head : (bs : List ℕ) → IsBytes bs → byte_at bs 0 ≡ 0x4B → byte_at bs 1 ≡ 0x01 → 7 ≤ length bs →
    bs ≡ head_bytes (byte_at bs 2) (be_number4 bs 3) ++ drop 7 bs
drop_head bs hb e f h =
    drop_byte bs 0 1 refl (omega arith)
    ∙ ap₂ ◌∷◌ e (drop_byte bs 1 2 refl (omega arith)
    ∙ ap₂ ◌∷◌ f (drop_byte bs 2 3 refl (omega arith)
    ∙ ap (λ l. byte_at bs 2 ∷ l) (drop_big4 bs 3 7 refl hb h)))

-- the section of the changed nodes, as it is written with those that were read
pub drop_nodes : (bs : List ℕ) → 8 + byte_at bs 7 ≤ length bs → drop 7 bs ≡ nodes_bytes (nodes_of bs) ++ drop (8 + byte_at bs 7) bs
drop_nodes bs h =
    let many : length (nodes_of bs) ≡ byte_at bs 7 = length-take-le (byte_at bs 7) (drop 8 bs) (omega (arith, length-drop 8 bs)) in
    drop_byte bs 7 8 refl (omega arith)
    ∙ ap₂ ◌∷◌ (sym many) (drop_part bs 8 (byte_at bs 7) (8 + byte_at bs 7) refl)

-- as many wraps are read as are asked for
pub wraps_many : (L : ℕ) (bs : List ℕ) (at k : ℕ) → length (wraps_from L bs at k) ≡ k
wraps_many L bs at zero = refl
wraps_many L bs at (suc k) = ap suc (wraps_many L bs (at + (6 + L)) k)

-- the file that was read is written as the bytes that it was read from
pub rewritten : (L : ℕ) (bs : List ℕ) → IsBytes bs → byte_at bs 0 ≡ 0x4B → byte_at bs 1 ≡ 0x01 →
    file_size L (byte_at bs 7) (wrap_count bs) ≡ length bs → file_bytes (parsed_file L bs) ≡ bs
rewritten L bs hb e f h =
    let n = byte_at bs 7 in
    let wraps = wraps_from L bs (10 + n) (wrap_count bs) in
    sym (drop_head bs hb e f (omega arith)
    ∙ ap (λ l. head_bytes (byte_at bs 2) (be_number4 bs 3) ++ l) (drop_nodes bs (omega arith)
    ∙ ap (λ l. nodes_bytes (nodes_of bs) ++ l) (drop_big2 bs (8 + n) (10 + n) (omega arith) hb (omega arith)
    ∙ ap₂ (λ (k : ℕ) (l : List ℕ). be_bytes2 k ++ l) (sym (wraps_many L bs (10 + n) (wrap_count bs))) (drop_wraps L bs (10 + n) (wrap_count bs) hb h))))
