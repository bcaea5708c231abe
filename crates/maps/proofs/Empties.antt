-- What it means that no place is empty.
use Rattle.std.proofs.Common.{◌≡◌, ℕ, zero, suc, ◌+◌, ◌<◌, ◌≤◌, Bool, true, false, cond, not, List, length, is_some, Some, None, Option, refl, arith}
use Rattle.std.specs.List.{find, range_with_len}
use Rattle.definitions.specs.declared.Link.{Link}
use Rattle.definitions.specs.Networks.{place}
use Rattle.maps.specs.Writes.{first_empty, link_of}

passed : (b : Bool) (k : ℕ) (o : Option ℕ) → cond b (Some k) o ≡ None → (b ≡ false) × (o ≡ None)
passed false k o e = (refl, e)
passed true k o e = grind arith

none_found : (p : ℕ → Bool) (a n : ℕ) → find p (range_with_len a n) ≡ None → (k : ℕ) → a ≤ k → k < a + n → p k ≡ false
none_found p a zero e k low high = absurd (omega arith)
none_found p a (suc n) e k low high =
    grind (arith, passed (p a) a (find p (range_with_len (a + 1) n)) e, none_found p (a + 1) n)

pub nothing_found : (p : ℕ → Bool) (a n : ℕ) → ((k : ℕ) → a ≤ k → k < a + n → p k ≡ false) → find p (range_with_len a n) ≡ None
nothing_found p a zero none = refl
nothing_found p a (suc n) none =
    grind (arith, none a, nothing_found p (a + 1) n (λ k low high. none k (omega arith) (omega arith)))

is_link : (p : Option Link) → not (is_some p) ≡ false → p ≡ Some (link_of p)
is_link (Some l) e = refl
is_link None e = grind arith

-- Where no place is empty, each holds a link.
pub full_at : (ps : List (Option Link)) → first_empty ps ≡ None → (k : ℕ) → k < length ps → place ps k ≡ Some (link_of (place ps k))
full_at ps e k h = is_link (place ps k) (none_found (λ j. not (is_some (place ps j))) 0 (length ps) e k (omega arith) (omega arith))

-- Where no place is empty, a place within is not.
pub never_empty : {X : Type 0} (ps : List (Option Link)) (k : ℕ) → first_empty ps ≡ None → k < length ps → None ≡ place ps k → X
never_empty ps k full h none =
    let some = full_at ps full k h in
    grind arith
