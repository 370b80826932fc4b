-- Parts of the check, one after the other: the first that is refused decides.
use Rattle.std.proofs.Common.{◌≡◌, ℕ, Some, None, Ok, Err, Option, Result, sym, refl, ap, ◌∙◌, arith}
use Rattle.std.specs.Option.{option_or}
use Rattle.layout.specs.declared.fault.LayoutFault.{LayoutFault}
use Rattle.layout.specs.Reads.{value_or_fault}

module _ {A : Type 0} (o : Option ℕ) (v : A) where
  -- a part that is passed has no fault, and gives what it read
  pub passed : (x : A) → value_or_fault o v ≡ Ok x → (o ≡ None) × (v ≡ x)
  passed x = go o
    where
      go : (o : Option ℕ) → value_or_fault o v ≡ Ok x → (o ≡ None) × (v ≡ x)
      go None e = (refl, cc)
      go (Some p) e = let z : ◌≡◌ {A = ℕ} 0 1 = cc in absurd (omega arith)

  -- what follows a part that is refused does not count
  pub stopped : {B : Type 0} (rest : Option ℕ) (w : B) (y : LayoutFault) → value_or_fault o v ≡ Err y →
      ◌≡◌ {A = Result B LayoutFault} (Err y) (value_or_fault (option_or o rest) w)
  stopped {B} rest w y = go o
    where
      go : (o : Option ℕ) → value_or_fault o v ≡ Err y →
          ◌≡◌ {A = Result B LayoutFault} (Err y) (value_or_fault (option_or o rest) w)
      go None e = let z : ◌≡◌ {A = ℕ} 0 1 = cc in absurd (omega arith)
      go (Some p) e = cc

  -- after a part that is passed, what follows decides
  pub goes_on : (rest total : Option ℕ) (x : A) → value_or_fault o v ≡ Ok x → total ≡ option_or o rest → rest ≡ total
  goes_on rest total x e t = sym (t ∙ ap (λ p. option_or p rest) (passed x e).0)
