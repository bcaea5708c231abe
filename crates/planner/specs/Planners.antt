-- What a planner holds, and what open answers.
use Rattle.std.specs.Prelude.{◌≡◌, [], Ok, Err, vec_items, Result}
use Rattle.definitions.specs.Networks.{Net}
use Rattle.definitions.specs.Measures.{Scale}
use Rattle.histories.specs.State.{State, Opened}
use Rattle.histories.specs.Histories.{After}
use Rattle.networks.specs.declared.network.Network.{Ghosts as NetworkGhosts}
use Rattle.measures.specs.declared.Measure.{Ghosts as MeasureGhosts}
use Rattle.planner.specs.declared.planner.Planner.{Planner}

-- A planner's state, where `meaning` says what its network means.
abbrev pub state : {N M : Type 0} {gn : NetworkGhosts N} {gm : MeasureGhosts M} → (N → Net) → Planner N M gn gm → State
state meaning p = record { net = meaning p.network; marks = vec_items p.withdrawn; standing = p.destination; records = vec_items p.records }

-- The network that a planner was opened over.
abbrev pub network_of : {N M : Type 0} {gn : NetworkGhosts N} {gm : MeasureGhosts M} → Planner N M gn gm → N
network_of p = p.network

-- A call that refuses leaves the planner as it was.
abbrev pub Unchanged : {N M A B : Type 0} {gn : NetworkGhosts N} {gm : MeasureGhosts M} → Result A B → Planner N M gn gm → Planner N M gn gm → Type 0
Unchanged (Ok x) p p' = Unit {0}
Unchanged (Err e) p p' = p' ≡ p

-- A planner just opened over x: no link is withdrawn, no plan stands, and it is what the empty list of calls leaves. Without
-- memory x comes back.
abbrev pub OpenAnswer : {N M : Type 0} {gn : NetworkGhosts N} {gm : MeasureGhosts M} → (N → Net) → Scale → N → Result (Planner N M gn gm) N → Type 0
OpenAnswer meaning m x (Ok p) = (p.network ≡ x) × Opened (meaning x) (state meaning p) × After m (meaning x) [] (state meaning p)
OpenAnswer meaning m x (Err y) = y ≡ x
