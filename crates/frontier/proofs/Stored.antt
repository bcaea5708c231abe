-- What stands at a place after a write, and in a cleared list.
use Rattle.std.proofs.Common.{◌≡◌, ℕ, zero, suc, true, false, List, length, replicate, is_some, Some, None, Option, refl, ap, ◌∙◌, arith}
use lib.ListN.{length-replicate}
use Rattle.definitions.specs.Networks.{place}

module _ {X : Type 0} where
  pub place_cleared : (n k : ℕ) → ◌≡◌ {A = Option X} (place (replicate n None) k) None
  place_cleared zero k = refl
  place_cleared (suc n) zero = refl
  place_cleared (suc n) (suc k) = place_cleared n k

  pub unset : (o : Option X) → is_some o ≡ false → o ≡ None
  unset None e = refl
  unset (Some x) e = let z : ◌≡◌ {A = ℕ} 0 1 = cc in absurd (omega arith)

  pub set_to : (o : Option X) → is_some o ≡ true → (x : X) × (o ≡ Some x)
  set_to None e = let z : ◌≡◌ {A = ℕ} 0 1 = cc in absurd (omega arith)
  set_to (Some x) e = (x, refl)

  -- a cleared list holds nothing, and is as long as it was
  pub cleared : (xs : List (Option X)) (n : ℕ) → xs ≡ replicate n None → ((u : ℕ) → place xs u ≡ None) × (length xs ≡ n)
  cleared xs n e = ((λ u. ap (λ ys. place ys u) e ∙ place_cleared n u), ap length e ∙ length-replicate n None)
