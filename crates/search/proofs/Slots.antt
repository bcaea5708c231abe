-- A list whose slots are written one after the other.
use Rattle.std.proofs.Common.{ℕ, ◌+◌, ◌<◌, List, length, set, None, Option, sym, subst, arith}
use native.Mathlib.Decide.{ℕ_discrete}
use Rattle.definitions.specs.Networks.{place}
use Rattle.std.proofs.lemmas.List.{get_or-set_same, get_or-set_other}

-- one slot more has what its number asks for
pub slot_more : {X : Type 0} (P : ℕ → Option X → Type 0) (xs : List (Option X)) (k : ℕ) (o : Option X) → k < length xs →
    ((j : ℕ) → j < k → P j (place xs j)) → P k o → (j : ℕ) → j < k + 1 → P j (place (set xs k o) j)
slot_more P xs k o lt below here j ltj = elim (ℕ_discrete j k) [
  | yes p ↦ subst (λ i. P i (place (set xs k o) i)) (sym p) (subst (P k) (sym (get_or-set_same xs k o None lt)) here)
  | no n ↦ subst (P j) (sym (get_or-set_other xs k j o None n)) (below j (omega arith))
]
