-- What a walk along the index keeps, where it is only known that there is an index.
use Rattle.std.proofs.Common.{◌≡◌, ℕ, ◌+◌, ◌≤◌, List, ◌∷◌, length, Some, Option, sym, ap, subst}
use mathlib.Core.HLevel.{⊥_prop}
use Rattle.std.specs.Coded.{×_prop, Π_prop, le_prop}
use Rattle.std.proofs.Math.Logic.{∥∥₁_elim, ∥∥₁_prop}
use Rattle.definitions.specs.Networks.{Net, place}
use Rattle.frontier.specs.declared.index.Index.{Index}
use Rattle.frontier.specs.declared.index.LinksInto.{LinksInto}
use Rattle.frontier.specs.Indexes.{Indexed, Stepped}
use Rattle.frontier.specs.Progress.{above, Along}
use Rattle.heap.specs.declared.Heap.{Heap}
use Rattle.search.specs.Offering.{HaveOffered, Takes}
use Rattle.frontier.proofs.Offering.{NoneBetween, along_start, along_step}

between_prop : (net : Net) (u low high : ℕ) → IsProp (NoneBetween net u low high)
between_prop net u low high = Π_prop (λ j. Π_prop (λ i. Π_prop (λ h. Π_prop (λ q. Π_prop (λ lo. Π_prop (λ hi. ⊥_prop))))))

-- a walk begins
pub start_below : (net : Net) (index : Index) (u : ℕ) (s : LinksInto) → s.index.now ≡ index → s.cursor ≡ place index.first u →
    ∥ Indexed net (place index.first) (place index.next) ∥₁ →
    (above s.cursor ≤ length net.places) × NoneBetween net u (above s.cursor) (length net.places) × ∥ Along net u s ∥₁
start_below net index u s e q I =
    let (le, rest) = ∥∥₁_elim I (×_prop le_prop (×_prop (between_prop net u (above s.cursor) (length net.places)) ∥∥₁_prop))
    (λ J. let (le, none, along) = along_start net index u s e q J in (le, (none, ∣ along ∣₁))) in
    (le, rest.0, rest.1)

-- and goes on
pub step_below : (net : Net) (u k : ℕ) (s t : LinksInto) → ∥ Along net u s ∥₁ → Stepped s (Some k) t →
    (above t.cursor ≤ k) × NoneBetween net u (above t.cursor) k × ∥ Along net u t ∥₁
step_below net u k s t A S =
    let (le, rest) = ∥∥₁_elim A (×_prop le_prop (×_prop (between_prop net u (above t.cursor) k) ∥∥₁_prop))
    (λ along. let (at, le, none, on) = along_step net u k s t along S in (le, (none, ∣ on ∣₁))) in
    (le, rest.0, rest.1)

module _ {E : Type 0} (before : E → E → Type 0) (net : Net) (u : ℕ) (offer : ℕ → Option E → Type 0) (old : Heap E) where
  -- the bound, computed otherwise
  pub bound_is : (ks : List ℕ) (b b' : ℕ) (new : Heap E) → b ≡ b' → HaveOffered before net u offer old ks b new → HaveOffered before net u offer old ks b' new
  bound_is ks b b' new e = subst (λ x. HaveOffered before net u offer old ks x new) e

  -- one place more
  pub offered_more : (s t : LinksInto) (k : ℕ) → Stepped s (Some k) t → above t.cursor ≤ k → NoneBetween net u (above t.cursor) k →
      (ks : List ℕ) (mid new : Heap E) → HaveOffered before net u offer old ks (above s.cursor) mid → (o : Option E) → offer k o → Takes before o mid new →
      (js : List ℕ) × HaveOffered before net u offer old js (above t.cursor) new
  offered_more s t k S le none ks mid new H o off took =
      (k ∷ ks, (mid, o, bound_is ks (above s.cursor) (k + 1) mid (ap above (sym S.0)) H, off, took, le, none))
