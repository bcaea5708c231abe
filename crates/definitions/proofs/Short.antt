-- A held route passes no node twice, so it has fewer links than the network has nodes.
use Rattle.std.proofs.Common.{◌≡◌, ℕ, suc, ◌<◌, true, false, eqb, List, [], ◌∷◌, length, refl, ap, subst, inl, inr, arith}
use Rattle.std.specs.List.{AllByRecursion, IsDistinct, list_any}
use Rattle.std.proofs.lemmas.Bool.{eqb-true, ne_eqb, or_cases}
use Rattle.std.proofs.lemmas.Map.Steps.{length-le_from_distinct_below}
use Rattle.definitions.specs.Networks.{Net, Limits}
use Rattle.definitions.specs.Routes.{Valuation, Steps, Held}
use Rattle.definitions.proofs.Following.{steps_one, steps_held}

module _ (ρ : Valuation) (net : Net) (N : Limits net) (t : ℕ) where
  -- the nodes that it passes
  abbrev stops : (u : ℕ) (ks : List ℕ) → Held ρ net t u ks → List ℕ
  stops u [] p = u ∷ []
  stops u (k ∷ ks) (l, K, p) = u ∷ stops l.head ks p

  length-stops : (u : ℕ) (ks : List ℕ) (p : Held ρ net t u ks) → length (stops u ks p) ≡ suc (length ks)
  length-stops u [] p = refl
  length-stops u (k ∷ ks) (l, K, p) = ap suc (length-stops l.head ks p)

  -- a node with more steps is none of them
  not_first : (v u n : ℕ) (ks : List ℕ) → Steps ρ net t v n → Held ρ net t u ks → length ks < n → eqb v u ≡ false
  not_first v u n ks S p lt = ne_eqb v u (λ e. let z = steps_one ρ net t u n (length ks) (subst (λ x. Steps ρ net t x n) e S) (steps_held ρ net t u ks p) in omega arith)

  none_of : (v u n : ℕ) (ks : List ℕ) → Steps ρ net t v n → (p : Held ρ net t u ks) → length ks < n → AllByRecursion (λ y. eqb v y ≡ false) (stops u ks p)
  none_of v u n [] S p lt = (not_first v u n [] S p lt, tt)
  none_of v u n (k ∷ ks) S (l, K, p) lt = (not_first v u n (k ∷ ks) S (l, K, p) lt, none_of v l.head n ks S p (omega arith))

  distinct : (u : ℕ) (ks : List ℕ) (p : Held ρ net t u ks) → IsDistinct eqb (stops u ks p)
  unfolding IsDistinct
  distinct u [] p = (tt, tt)
  distinct u (k ∷ ks) (l, K, p) =
      (none_of u l.head (suc (length ks)) ks (steps_held ρ net t u (k ∷ ks) (l, K, p)) p (omega arith), distinct l.head ks p)

  within : (u : ℕ) (ks : List ℕ) (p : Held ρ net t u ks) → u < net.nodes → (q : ℕ) → list_any (eqb q) (stops u ks p) ≡ true → q < net.nodes
  within u [] p low q h = elim (or_cases (eqb q u) false h) [ inl e ↦ rw (eqb-true q u e) low | inr e ↦ cc ]
  within u (k ∷ ks) (l, K, p) low q h = elim (or_cases (eqb q u) _ h) [
    | inl e ↦ rw (eqb-true q u e) low
    | inr e ↦ within l.head ks p (N.sound k l K.holds).1 q e
  ]

  pub held_short : (u : ℕ) (ks : List ℕ) → Held ρ net t u ks → u < net.nodes → length ks < net.nodes
  held_short u ks p low =
      let few = length-le_from_distinct_below (stops u ks p) net.nodes (distinct u ks p) (within u ks p low) in
      omega (arith, length-stops u ks p)
