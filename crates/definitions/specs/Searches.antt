-- What the two searches end with, for any valuation, and the valuation that they run on.
use Rattle.std.specs.Prelude.{◌≡◌, ℕ, suc, ◌≤◌, true, List, [], ◌∷◌, Some, None, Option, ◌≢◌}
use Rattle.definitions.specs.declared.Link.{Link}
use Rattle.definitions.specs.Networks.{Net, Holds}
use Rattle.definitions.specs.Measures.{Scale, worse}
use Rattle.definitions.specs.Routes.{Valuation, Tight}

-- Values by recovery values that are given: with none for place k, its link makes nothing.
-- With r(k) for all k these are the worst values, and with the start for all k the plain values.
abbrev pub given : Scale → (ℕ → Option ℕ) → Valuation
given m r = record {
  start = m.start;
  via = λ k l v w. (x : ℕ) × (r k ≡ Some x) × (w ≡ worse m x (m.extend v l.figure));
  no_worse = m.no_worse;
}

-- A chain of links from u to t, each of which makes of the label at its head exactly the label at its tail.
abbrev pub LabelChain : Valuation → Net → ℕ → (ℕ → Option ℕ) → ℕ → List ℕ → Type 0
LabelChain ρ net t d u [] = u ≡ t
LabelChain ρ net t d u (k ∷ ks) =
    (l : Link) × (b : ℕ) × (a : ℕ) × Holds net k l × (l.tail ≡ u) × (u ≢ t) × (d l.head ≡ Some b) × (d u ≡ Some a) × ρ.via k l b a × LabelChain ρ net t d l.head ks

-- What a search for values ends with: the label d of each node it reached.
pub record Labels (ρ : Valuation) (net : Net) (t : ℕ) (d : ℕ → Option ℕ) : Type 0 where
  -- the destination has the start
  pub at_t : d t ≡ Some ρ.start
  -- every link is relaxed: where its head has a label, its tail has one that is no worse than what the link makes of it
  pub relaxed : (k : ℕ) (l : Link) (b w : ℕ) → Holds net k l → (l.tail ≢ t) → d l.head ≡ Some b → ρ.via k l b w →
      (a : ℕ) × (d l.tail ≡ Some a) × (ρ.no_worse a w ≡ true)
  -- every label is met exactly by a chain of links
  pub met : (u a : ℕ) → d u ≡ Some a → ∥ ((ks : List ℕ) × LabelChain ρ net t d u ks) ∥₁

-- What the search for next links ends with: the steps s and the next links nx of the nodes.
pub record Nexts (ρ : Valuation) (net : Net) (t : ℕ) (s nx : ℕ → Option ℕ) : Type 0 where
  -- the destination has no steps to go
  pub none_at_t : s t ≡ Some 0
  -- each tight link has been offered to its tail, which has fewer steps, or as many and a link no higher
  pub offered : (k : ℕ) (l : Link) (n : ℕ) → Holds net k l → Tight ρ net t k l → s l.head ≡ Some n →
      (a : ℕ) × (s l.tail ≡ Some a) × (a ≤ suc n) × ((j : ℕ) → a ≡ suc n → nx l.tail ≡ Some j → j ≤ k)
  -- and the link that was taken is tight and leads to one step fewer
  pub taken : (u a : ℕ) → s u ≡ Some a → (u ≢ t) →
      (k : ℕ) × (l : Link) × (n : ℕ) × (nx u ≡ Some k) × Holds net k l × (l.tail ≡ u) × Tight ρ net t k l × (s l.head ≡ Some n) × (a ≡ suc n)

-- The search for the best values, under way. `done` has the labels that are settled, `In w u` says that
-- the heap holds the value w for the node u, `Due k l` that the link l at k has been offered if its head
-- is settled, and `last` is the value settled last.
pub record Running (ρ : Valuation) (net : Net) (t : ℕ) (done : ℕ → Option ℕ) (In : ℕ → ℕ → Type 0) (Due : ℕ → Link → Type 0) (last : ℕ) : Type 0 where
  -- the destination is settled, and every settled label is met by a chain of settled ones
  pub at_t : done t ≡ Some ρ.start
  pub met : (u a : ℕ) → done u ≡ Some a → ∥ ((ks : List ℕ) × LabelChain ρ net t done u ks) ∥₁
  -- nodes are settled in the order of their values: what is settled is no worse than the last, what waits no better
  pub newest : ∥ ((u : ℕ) × (done u ≡ Some last)) ∥₁
  pub behind : (u a : ℕ) → done u ≡ Some a → ρ.no_worse a last ≡ true
  pub ahead : (w u : ℕ) → In w u → ρ.no_worse last w ≡ true
  -- what waits was offered by a link with a settled head
  pub origin : (w u : ℕ) → In w u → ∥ ((k : ℕ) × (l : Link) × (b : ℕ) × Holds net k l × (l.tail ≡ u) × (done l.head ≡ Some b) × ρ.via k l b w) ∥₁
  -- what a link has offered is no better than the label of its tail, or waits where the tail has none
  pub kept : (k : ℕ) (l : Link) (b w a : ℕ) → Holds net k l → Due k l → (l.tail ≢ t) → done l.head ≡ Some b → ρ.via k l b w →
      done l.tail ≡ Some a → ρ.no_worse a w ≡ true
  pub waits : (k : ℕ) (l : Link) (b w : ℕ) → Holds net k l → Due k l → (l.tail ≢ t) → done l.head ≡ Some b → ρ.via k l b w →
      done l.tail ≡ None → In w l.tail

-- The search for steps and next links, under way. `In n k` says that the heap holds the link k with n steps; the
-- rest is as above.
pub record Stepping (ρ : Valuation) (net : Net) (t : ℕ) (s nx : ℕ → Option ℕ) (In : ℕ → ℕ → Type 0) (Due : ℕ → Link → Type 0) (last : ℕ) : Type 0 where
  pub none_at_t : s t ≡ Some 0
  pub behind : (u a : ℕ) → s u ≡ Some a → a ≤ last
  pub ahead : (n k : ℕ) → In n k → last ≤ n
  pub origin : (n k : ℕ) → In n k → (l : Link) × (c : ℕ) × Holds net k l × Tight ρ net t k l × (s l.head ≡ Some c) × (n ≡ suc c)
  pub taken : (u a : ℕ) → s u ≡ Some a → (u ≢ t) →
      (k : ℕ) × (l : Link) × (n : ℕ) × (nx u ≡ Some k) × Holds net k l × (l.tail ≡ u) × Tight ρ net t k l × (s l.head ≡ Some n) × (a ≡ suc n)
  pub kept : (k : ℕ) (l : Link) (c a : ℕ) → Holds net k l → Due k l → Tight ρ net t k l → s l.head ≡ Some c → s l.tail ≡ Some a →
      (a ≤ suc c) × ((j : ℕ) → a ≡ suc c → nx l.tail ≡ Some j → j ≤ k)
  pub waits : (k : ℕ) (l : Link) (c : ℕ) → Holds net k l → Due k l → Tight ρ net t k l → s l.head ≡ Some c → s l.tail ≡ None → In (suc c) k
