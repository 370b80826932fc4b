-- A name reached by a chain is one reached link by link.
use Rattle.std.proofs.Common.{List, [], ◌∷◌, refl, subst, inl, inr}
use Rattle.chains.specs.Chains.{LinkNames, IsContentOf, IsChain, IsReached, Passes, ReachLaws}

-- from the names of a set, by links one after the other
pub data IsReachedByLinks {Name : Type 0} (start : Name → Type 0) (link : Name → Name → Type 0) : Name → Type 0 where
  given : {n : Name} → start n → IsReachedByLinks start link n
  opened : {m n : Name} → link m n → IsReachedByLinks start link m → IsReachedByLinks start link n

-- with more names and more links, more is reached
module _ {Name : Type 0} {start start′ : Name → Type 0} {link link′ : Name → Name → Type 0}
    (names : (n : Name) → start n → start′ n) (links : (m n : Name) → link m n → link′ m n) where
  -- what is reached by the fewer is reached by the more
  pub followed_more : {n : Name} → IsReachedByLinks start link n → IsReachedByLinks start′ link′ n
  followed_more (given s) = given (names _ s)
  followed_more (opened l r) = opened (links _ _ l) (followed_more r)

module _ {Name : Type 0} (start : Name → Type 0) (link : Name → Name → Type 0) where
  -- each content of a chain is reached link by link
  content_followed : (hs : List (LinkNames Name)) → IsChain start link hs → (n : Name) → IsContentOf hs n → IsReachedByLinks start link n
  content_followed [] c n i = absurd i
  content_followed (h ∷ hs) c n (inl e) =
      subst (λ (m : Name). IsReachedByLinks start link m) e
      (opened c.0 (elim c.1.0 [ inl s ↦ given s | inr i ↦ content_followed hs c.1.1 h.opener i ]))
  content_followed (h ∷ hs) c n (inr i) = content_followed hs c.1.1 n i

  -- what a chain reaches is reached link by link
  pub followed : (n : Name) → IsReached start link n → IsReachedByLinks start link n
  followed n (inl s) = given s
  followed n (inr (h, (hs, (c, e)))) = content_followed (h ∷ hs) c n (inl e)

  -- one link on from a name that a chain reaches, a chain reaches too
  pub link_reached : (m n : Name) → link m n → IsReached start link m → IsReached start link n
  link_reached m n l (inl s) = inr (record { opener = m; content = n }, ([], ((l, (inl s, tt)), refl)))
  link_reached m n l (inr (h, (hs, (c, e)))) = inr (record { opener = m; content = n }, (h ∷ hs, ((l, (inr (inl e), c)), refl)))

  -- what is reached link by link is reached by a chain
  pub reached : {n : Name} → IsReachedByLinks start link n → IsReached start link n
  reached (given s) = inl s
  reached (opened {m} {n} l r) = link_reached m n l (reached r)

  -- what holds of the set, and goes along links, holds of all that is reached
  closed : (P : Name → Type 0) → ((n : Name) → start n → P n) → ((m n : Name) → link m n → P m → P n) → {n : Name} → IsReachedByLinks start link n → P n
  closed P set on (given s) = set _ s
  closed P set on (opened l r) = on _ _ l (closed P set on r)

-- what is reached is the set, closed under links, and nothing else
pub reach_laws : (Name : Type 0) → ReachLaws Name
reach_laws Name = record {
  start_reached = λ start link name s. inl s;
  link_reached = λ start link. link_reached (Passes start) (λ m. Passes (link m));
  nothing_else = λ start link property set on name r.
      closed (Passes start) (λ m. Passes (link m)) (Passes property) set on (followed (Passes start) (λ m. Passes (link m)) name r);
}
