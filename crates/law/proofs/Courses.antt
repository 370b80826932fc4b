-- Courses of a player, by their last file, and the files from one epoch to another.
use Rattle.std.proofs.Common.{◌≡◌, ℕ, ◌+◌, ◌≤◌, Bool, true, false, not, ◌&&◌, List, [], ◌∷◌, length, filter, leb, refl, sym, ap, ◌∙◌, inl, inr, subst₂, arith}
use Rattle.std.proofs.Common.{Ok, cond}
use Rattle.std.proofs.lemmas.Bool.{and_from, and_left, and_right, le-leb, lt-leb}
use Rattle.player_rules.specs.Laws.{PlayerLaws}
use Rattle.player_rules.specs.Players.{Player, waiting, PlayerNumbers, PlayerCall, enrol_verdict, ring_after_enrol, is_player_refused, player_after, ring_after}
use Rattle.law.specs.Runs.{Edition}
use Rattle.law.specs.Players.{LentRing, own, other, lent_ring, own_ring_after, IsAside, Course, enrolled, aside, handed, files_from_to, read_of}
use Rattle.tree.proofs.Members.{In}

module _ (laws : PlayerLaws) where
  -- showing and refusing change nothing
  aside_keeps : (a : PlayerCall) (l : LentRing) (p : Player) (ring : List ℕ) → IsAside a p (lent_ring l ring) →
      (player_after a p (lent_ring l ring) ≡ p) × (own_ring_after l (ring_after a p (lent_ring l ring)) ring ≡ ring)
  aside_keeps a l p ring (inl e) = (
    ap (λ b. player_after b p (lent_ring l ring)) e,
    ap (λ b. own_ring_after l (ring_after b p (lent_ring l ring)) ring) e
        ∙ same l,
  )
    where
      same : (l : LentRing) → own_ring_after l (lent_ring l ring) ring ≡ ring
      same own = refl
      same (other bytes) = refl
  aside_keeps a own p ring (inr e) = laws.refused_keeps a p ring e
  aside_keeps a (other bytes) p ring (inr e) = ((laws.refused_keeps a p bytes e).0, refl)

  -- what holds of the last file that was handed to the player holds of the player
  pub after_last : (card : List ℕ) (x : Edition) (xs : List Edition) (P : Bool → Player → List ℕ → Type 0) →
      ((all : Bool) (p : Player) (ring work : List ℕ) → 512 ≤ length work → Course card xs all p ring →
      P (all && not (is_player_refused (read_of x work) p ring)) (player_after (read_of x work) p ring) (ring_after (read_of x work) p ring)) →
      (all : Bool) (p : Player) (ring : List ℕ) → Course card (x ∷ xs) all p ring → P all p ring
  after_last card x xs P does all p ring (aside {p = q} {ring = r} a l h c) =
      let k = aside_keeps a l q r h in
      subst₂ (λ (u : Player) (v : List ℕ). P all u v) (sym k.0) (sym k.1) (after_last card x xs P does all q r c)
  after_last card x xs P does all p ring (handed {all = b} {p = q} {ring = r} y work h c) = does b q r work h c

  -- what holds of every player that was just enrolled holds as long as no file was handed to it
  pub after_none : (card : List ℕ) (P : Bool → Player → List ℕ → Type 0) →
      ((ring : List ℕ) (s : PlayerNumbers) → enrol_verdict card ring ≡ Ok s → P true (waiting s) (ring_after_enrol card ring)) →
      (all : Bool) (p : Player) (ring : List ℕ) → Course card [] all p ring → P all p ring
  after_none card P does all p ring (enrolled r s e) = does r s e
  after_none card P does all p ring (aside {p = q} {ring = r} a l h c) =
      let k = aside_keeps a l q r h in
      subst₂ (λ (u : Player) (v : List ℕ). P all u v) (sym k.0) (sym k.1) (after_none card P does all q r c)

module _ {A : Type 0} where
  -- two tests that agree on the elements of a list keep the same of them
  alike : (p q : A → Bool) (xs : List A) → ((y : A) → In y xs → p y ≡ q y) → filter p xs ≡ filter q xs
  alike p q [] h = refl
  alike p q (x ∷ xs) h =
      ap (λ b. cond b (x ∷ filter p xs) (filter p xs)) (h x (inl refl))
      ∙ ap (λ (l : List A). cond (q x) (x ∷ l) l) (alike p q xs (λ y i. h y (inr i)))

  -- a test that no element passes keeps none
  none_kept : (p : A → Bool) (xs : List A) → ((y : A) → In y xs → p y ≡ false) → filter p xs ≡ []
  none_kept p [] h = refl
  none_kept p (x ∷ xs) h = ap (λ b. cond b (x ∷ filter p xs) (filter p xs)) (h x (inl refl)) ∙ none_kept p xs (λ y i. h y (inr i))

-- one file more, of the epoch after these
module _ (files : List Edition) (epoch : ℕ) (past : (y : Edition) → In y files → y.notice.epoch ≤ epoch) (x : Edition) (new : x.notice.epoch ≡ epoch + 1) where
  -- it is not among the files up to an earlier epoch
  pub from_to_past : (first last : ℕ) → last ≤ epoch → files_from_to first last (x ∷ files) ≡ files_from_to first last files
  from_to_past first last l =
      ap (λ b. cond b (x ∷ files_from_to first last files) (files_from_to first last files))
      (and_right (leb first x.notice.epoch) (leb x.notice.epoch last) (lt-leb x.notice.epoch last (omega arith)))

  -- it is the newest of the files up to its own epoch
  pub from_to_now : (first : ℕ) → first ≤ epoch + 1 → files_from_to first (epoch + 1) (x ∷ files) ≡ x ∷ files_from_to first epoch files
  from_to_now first l =
      ap (λ b. cond b (x ∷ files_from_to first (epoch + 1) files) (files_from_to first (epoch + 1) files))
      (and_from (leb first x.notice.epoch) (leb x.notice.epoch (epoch + 1)) (le-leb first x.notice.epoch (omega arith))
      (le-leb x.notice.epoch (epoch + 1) (omega arith)))
      ∙ ap (λ l. x ∷ l) (alike _ _ files (λ y i. let h = past y i in
      ap (λ b. leb first y.notice.epoch && b) (le-leb y.notice.epoch (epoch + 1) (omega arith) ∙ sym (le-leb y.notice.epoch epoch h))))

  -- from its epoch on up to the one before, there are no files
  pub from_to_none : files_from_to (epoch + 1) epoch files ≡ []
  from_to_none = none_kept _ files (λ y i. let h = past y i in and_left (leb (epoch + 1) y.notice.epoch) _ (lt-leb (epoch + 1) y.notice.epoch (omega arith)))
