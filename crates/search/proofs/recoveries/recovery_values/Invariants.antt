use Rattle.std.proofs.Common.{◌≡◌, ℕ, ◌<◌, length, None, Option}
use Rattle.definitions.specs.declared.Link.{Link}
use Rattle.definitions.specs.Measures.{Scale}
use Rattle.definitions.specs.Networks.{Net, Holds, place, at_risk}
use Rattle.definitions.specs.Routes.{BestIs}
use Rattle.definitions.specs.Plans.{plain}
use Rattle.search.proofs.recoveries.recovery_values.Given as goal

-- x is the recovery value of place j
abbrev pub Recovers : Scale → Net → ℕ → ℕ → Option ℕ → Type 0
Recovers m net t j x = ((l : Link) → Holds net j l → BestIs (plain m) (at_risk j net) t l.tail x) × (place net.places j ≡ None → x ≡ None)

-- the places below k have their recovery values
abbrev pub invariant-loop-k : goal.invariant-loop-k
invariant-loop-k g l =
    ((j : ℕ) → j < l.k → Recovers g.M.Measure.scale (g.N.Network.meaning l.network) l.t j (place l.slot-items j)) × (length l.slot-items ≡ l.count)
