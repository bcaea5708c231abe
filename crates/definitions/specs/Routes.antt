-- Routes, their values under any valuation, the best value, and the held route.
use Rattle.std.specs.Prelude.{◌≡◌, ℕ, suc, ◌<◌, Bool, true, false, List, [], ◌∷◌, Some, None, Option, nat_le}
use Rattle.definitions.specs.declared.Link.{Link}
use Rattle.definitions.specs.Networks.{Net, Holds}

-- The places lead end to end from u to t. The list is empty only where u is t, and may pass a node twice.
abbrev pub Route : Net → ℕ → ℕ → List ℕ → Type 0
Route net t u [] = u ≡ t
Route net t u (k ∷ ks) = (l : Link) × Holds net k l × (l.tail ≡ u) × Route net t l.head ks

-- None of the places is one of which `gone` says true.
abbrev pub Clear : (ℕ → Bool) → List ℕ → Type 0
Clear gone [] = Unit {0}
Clear gone (k ∷ ks) = (gone k ≡ false) × Clear gone ks

-- How a route is valued: what the empty route has, what the link l at place k makes of the value v of
-- the rest of the route (it makes w; a link may make nothing), and which of two values is no worse.
pub record Valuation : Type 1 where
  pub start : ℕ
  pub via : ℕ → Link → ℕ → ℕ → Type 0
  pub no_worse : ℕ → ℕ → Bool

-- The places are a route from u to t, and its value is w.
abbrev pub RouteValue : Valuation → Net → ℕ → ℕ → List ℕ → ℕ → Type 0
RouteValue ρ net t u [] w = (u ≡ t) × (w ≡ ρ.start)
RouteValue ρ net t u (k ∷ ks) w =
    (l : Link) × (v : ℕ) × Holds net k l × (l.tail ≡ u) × RouteValue ρ net t l.head ks v × ρ.via k l v w

-- w is the best value of a route from u to t.
pub record Best (ρ : Valuation) (net : Net) (t u w : ℕ) : Type 0 where
  pub reached : ∥ ((ks : List ℕ) × RouteValue ρ net t u ks w) ∥₁
  pub unbeaten : (ks : List ℕ) (v : ℕ) → RouteValue ρ net t u ks v → ρ.no_worse w v ≡ true

-- No route from u to t has a value.
abbrev pub NoRoute : Valuation → Net → ℕ → ℕ → Type 0
NoRoute ρ net t u = (ks : List ℕ) (w : ℕ) → RouteValue ρ net t u ks w → ⊥

-- The answer to "what is the best value from u?": that value, or nothing where no route has one.
abbrev pub BestIs : Valuation → Net → ℕ → ℕ → Option ℕ → Type 0
BestIs ρ net t u (Some w) = Best ρ net t u w
BestIs ρ net t u None = NoRoute ρ net t u

-- The link l at place k is tight: it starts elsewhere than t, and of the best value at its head it
-- makes the best value at its tail.
pub record Tight (ρ : Valuation) (net : Net) (t k : ℕ) (l : Link) : Type 0 where
  pub elsewhere : l.tail ≡ t → ⊥
  pub beyond : ℕ
  pub best_beyond : Best ρ net t l.head beyond
  pub own : ℕ
  pub best_own : Best ρ net t l.tail own
  pub exact : ρ.via k l beyond own

-- Routes valued by their number of links, over tight links only.
abbrev pub count_tight : Valuation → Net → ℕ → Valuation
count_tight ρ net t = record { start = 0; via = λ k l n s. Tight ρ net t k l × (s ≡ suc n); no_worse = nat_le }

-- The steps of u: the fewest tight links that lead from u to t.
abbrev pub Steps : Valuation → Net → ℕ → ℕ → ℕ → Type 0
Steps ρ net t u n = Best (count_tight ρ net t) net t u n

-- The next link of u: the lowest-numbered tight link to a node with one step fewer.
pub record Next (ρ : Valuation) (net : Net) (t u k : ℕ) (l : Link) : Type 0 where
  pub holds : Holds net k l
  pub starts : l.tail ≡ u
  pub tight : Tight ρ net t k l
  pub left : ℕ
  pub steps : Steps ρ net t u (suc left)
  pub fewer : Steps ρ net t l.head left
  pub lowest : (j : ℕ) (i : Link) → j < k → Holds net j i → i.tail ≡ u → Tight ρ net t j i → Steps ρ net t i.head left → ⊥

-- The held route of u follows next links.
abbrev pub Held : Valuation → Net → ℕ → ℕ → List ℕ → Type 0
Held ρ net t u [] = u ≡ t
Held ρ net t u (k ∷ ks) = (l : Link) × Next ρ net t u k l × Held ρ net t l.head ks
