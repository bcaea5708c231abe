-- What a link offers to the search for the best values.
use Rattle.std.specs.Prelude.{◌≡◌, ℕ, ◌^◌, ◌<◌, Some, None, Option}
use Rattle.definitions.specs.declared.Link.{Link}
use Rattle.definitions.specs.Networks.{Net, Holds}
use Rattle.definitions.specs.Measures.{Scale, worse}
use Rattle.definitions.specs.Routes.{Valuation}
use Rattle.frontier.specs.declared.entries.Candidate.{Candidate}

-- The recovery values of the links have 64 bits.
abbrev pub Fitting : Net → (ℕ → Option ℕ) → Type 0
Fitting net r = (k : ℕ) (l : Link) (x : ℕ) → Holds net k l → r k ≡ Some x → x < 2 ^ 64

-- What a link makes of the value at its head: nothing without a recovery value, else the worse of that and the extended value.
abbrev pub made : Scale → Option ℕ → ℕ → ℕ → Option ℕ
made m None figure v = None
made m (Some r) figure v = Some (worse m r (m.extend v figure))

-- What place k offers once `from` is settled: the value that its link makes for its tail, or nothing
-- where it holds no link into that node that makes a value for a node without one.
abbrev pub Offered : Valuation → Net → (ℕ → Option ℕ) → Candidate → ℕ → Option Candidate → Type 0
Offered ρ net d from k None = (l : Link) (w : ℕ) → Holds net k l → l.head ≡ from.node → d l.tail ≡ None → ρ.via k l from.value w → ⊥
Offered ρ net d from k (Some e) = (l : Link) × Holds net k l × (l.head ≡ from.node) × (l.tail ≡ e.node) × ρ.via k l from.value e.value
