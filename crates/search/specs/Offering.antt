-- What becomes of a heap when the links into a node offer their entries, one after the other.
use Rattle.std.specs.Prelude.{◌≡◌, ℕ, ◌+◌, ◌<◌, ◌≤◌, List, [], ◌∷◌, length, Some, None, MatchResult, Option, Result}
use Rattle.std.specs.List.Sorted.{IsPermutation}
use Rattle.definitions.specs.Networks.{Net}
use Rattle.heap.specs.declared.Heap.{Heap}
use Rattle.heap.specs.declared.HeapFull.{HeapFull}
use Rattle.heap.specs.Heaps.{Heaped}
use Rattle.heap.specs.Holds.{held, capacity}
use Rattle.frontier.proofs.Offering.{NoneBetween}

module _ {E : Type 0} (before : E → E → Type 0) where
  -- An entry is pushed on a heap; one that is full stays as it is.
  pub record Pushes (e : E) (old new : Heap E) : Type 0 where
    pub answer : Result Unit HeapFull
    pub entries : MatchResult answer (λ _. IsPermutation (e ∷ held old) (held new)) (λ _. new ≡ old)
    pub room : MatchResult answer (λ _. length (held old) < capacity old) (λ _. length (held old) ≡ capacity old)
    pub order : Heaped before (held old) → Heaped before (held new)
    pub slots : capacity new ≡ capacity old

  -- What is offered is pushed, if it is anything.
  abbrev pub Takes : Option E → Heap E → Heap E → Type 0
  Takes None old new = new ≡ old
  Takes (Some e) old new = Pushes e old new

  module _ (net : Net) (u : ℕ) (offer : ℕ → Option E → Type 0) (old : Heap E) where
    -- The places ks, the lowest first, have made their offers, from the highest on, and no other link into u lies at place b
    -- or above.
    abbrev pub HaveOffered : List ℕ → ℕ → Heap E → Type 0
    HaveOffered [] b new = (new ≡ old) × (b ≤ length net.places) × NoneBetween net u b (length net.places)
    HaveOffered (k ∷ ks) b new = (mid : Heap E) × (o : Option E) × HaveOffered ks (k + 1) mid × offer k o × Takes o mid new × (b ≤ k) × NoneBetween net u b k

    -- Each link into u has made its offer.
    abbrev pub OffersLinks : Heap E → Type 0
    OffersLinks new = (ks : List ℕ) × HaveOffered ks 0 new
