-- What has at most one proof, and so comes out of a truncated fact.
use Rattle.std.proofs.Common.{◌≡◌, ℕ, Some, None, Option, refl}
use mathlib.Core.Bool.{Bool-set}
use mathlib.Core.HLevel.{⊥_prop, ¬_prop, Π_prop}
use native.Mathlib.Bridge.{le_prop}
use mathlib.Core.Logic.{∥∥₁_prop, ∥∥₁_elim}
use Rattle.definitions.specs.declared.Link.{Link}
use Rattle.definitions.specs.Networks.{Net, Sound, Limits}
use Rattle.definitions.specs.Routes.{Valuation, Best, NoRoute, BestIs}
use Rattle.definitions.specs.Searches.{Labels}
use Rattle.definitions.proofs.Fixpoint.{Lawful, label_best, label_none}

pub best_prop : (ρ : Valuation) (net : Net) (t u w : ℕ) → IsProp (Best ρ net t u w)
best_prop ρ net t u w A B = λ i. record {
  reached = ∥∥₁_prop A.reached B.reached i;
  unbeaten = Π_prop (λ ks. Π_prop (λ v. Π_prop (λ r. Bool-set _ _))) A.unbeaten B.unbeaten i;
}

pub no_route_prop : (ρ : Valuation) (net : Net) (t u : ℕ) → IsProp (NoRoute ρ net t u)
no_route_prop ρ net t u = Π_prop (λ ks. Π_prop (λ w. Π_prop (λ r. ⊥_prop)))

pub best_is_prop : (ρ : Valuation) (net : Net) (t u : ℕ) (o : Option ℕ) → IsProp (BestIs ρ net t u o)
best_is_prop ρ net t u (Some w) = best_prop ρ net t u w
best_is_prop ρ net t u None = no_route_prop ρ net t u

-- Each label answers for its node, also from a truncated fact.
pub labels_answer : (ρ : Valuation) (net : Net) (t : ℕ) (Fit : ℕ → Type 0) → Lawful ρ net Fit → (d : ℕ → Option ℕ) → ∥ Labels ρ net t d ∥₁ → (u : ℕ) → BestIs ρ net t u (d u)
labels_answer ρ net t Fit L d S u = ∥∥₁_elim S (best_is_prop ρ net t u (d u)) (λ S. go S (d u) refl)
  where
    go : Labels ρ net t d → (o : Option ℕ) → d u ≡ o → BestIs ρ net t u o
    go S (Some a) e = label_best ρ net t Fit L d S u a e
    go S None e = label_none ρ net t Fit L d S u e

-- That a link is sound, and that a network keeps the limits, has at most one proof.
pub sound_prop : (nodes : ℕ) (l : Link) → IsProp (Sound nodes l)
sound_prop nodes l A B = λ i.
    (le_prop A.0 B.0 i, le_prop A.1 B.1 i, ¬_prop A.2 B.2 i, le_prop A.3 B.3 i, le_prop A.4 B.4 i)

pub limits_prop : (net : Net) → IsProp (Limits net)
limits_prop net A B = λ i. record {
  few_nodes = le_prop A.few_nodes B.few_nodes i;
  few_places = le_prop A.few_places B.few_places i;
  sound = Π_prop (λ k. Π_prop (λ l. Π_prop (λ h. sound_prop net.nodes l))) A.sound B.sound i;
}
