-- Links, chains, and which names are reached: over names of any type, and any link between two.
use Rattle.std.specs.Prelude.{◌≡◌, Bool, ◌⊎◌, List, [], ◌∷◌, IsTrue}

-- the two names of a link
pub record LinkNames (Name : Type 0) : Type 0 where
  pub opener : Name
  pub content : Name

module _ {Name : Type 0} where
  -- a name is the content of one of these
  abbrev pub IsContentOf : List (LinkNames Name) → Name → Type 0
  IsContentOf [] name = ⊥
  IsContentOf (h ∷ hs) name = (h.content ≡ name) ⊎ IsContentOf hs name

  -- a chain from a set of names, its last link first: each opener is in the set, or the content of
  -- an earlier link
  abbrev pub IsChain :
      (Name → Type 0) → (Name → Name → Type 0) → List (LinkNames Name) → Type 0
  IsChain start link [] = Unit {0}
  IsChain start link (h ∷ hs) =
      link h.opener h.content
      × ((start h.opener ⊎ IsContentOf hs h.opener) × IsChain start link hs)

  -- a name is reached if it is in the set, or the content of a chain's last link
  abbrev pub IsReached : (Name → Type 0) → (Name → Name → Type 0) → Name → Type 0
  IsReached start link name =
      start name
      ⊎ ((h : LinkNames Name) × ((hs : List (LinkNames Name)) ×
      (IsChain start link (h ∷ hs) × (h.content ≡ name))))

-- the names that pass a test, and the links that do
abbrev pub Passes : {A : Type 0} → (A → Bool) → A → Type 0
Passes test x = IsTrue (test x)

-- of names of a type: what is reached is the least that holds the set and is closed under links,
-- for any set, links and property of names that can be tested
pub record ReachLaws (Name : Type 0) : Type 0 where
  -- the set is reached
  pub start_reached : (start : Name → Bool) (link : Name → Name → Bool) (name : Name) →
      IsTrue (start name) → IsReached (Passes start) (λ m. Passes (link m)) name
  -- the content of a link is, if its opener is
  pub link_reached : (start : Name → Bool) (link : Name → Name → Bool) (opener content : Name) →
      IsTrue (link opener content) → IsReached (Passes start) (λ m. Passes (link m)) opener →
      IsReached (Passes start) (λ m. Passes (link m)) content
  -- and nothing else
  pub nothing_else : (start : Name → Bool) (link : Name → Name → Bool) (property : Name → Bool) →
      ((name : Name) → IsTrue (start name) → IsTrue (property name)) →
      ((opener content : Name) → IsTrue (link opener content) → IsTrue (property opener) →
      IsTrue (property content)) →
      (name : Name) → IsReached (Passes start) (λ m. Passes (link m)) name → IsTrue (property name)
