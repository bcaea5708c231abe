-- What replaying a list of calls leaves.
use Rattle.std.specs.Prelude.{◌≡◌, List, map, reverse, Ok, Err, Result}
use Rattle.definitions.specs.Networks.{Net}
use Rattle.definitions.specs.Measures.{Scale}
use Rattle.histories.specs.declared.call.Event.{Event}
use Rattle.networks.specs.declared.network.Network.{Ghosts as NetworkGhosts}
use Rattle.measures.specs.declared.Measure.{Ghosts as MeasureGhosts}
use Rattle.planner.specs.declared.planner.Planner.{Planner}
use Rattle.histories.specs.State.{State}
use Rattle.planner.specs.Planners.{state, network_of}
use Rattle.histories.specs.Histories.{Ran, After}

-- The calls of a list, made one after the other on a planner just opened over n, were accepted or refused as they should be,
-- and the planner, in state s, is what they leave.
pub record Replayed (m : Scale) (n : Net) (asked events : List Event) (s : State) : Type 0 where
  pub calls : map (λ e. e.call) events ≡ map (λ e. e.call) asked
  pub ran : Ran m n (reverse events)
  pub after : After m n (reverse events) s

abbrev pub ReplayAnswer : {N M : Type 0} {gn : NetworkGhosts N} {gm : MeasureGhosts M} → (N → Net) → Scale → N → List Event → List Event → Result (Planner N M gn gm) N → Type 0
ReplayAnswer meaning m x asked events (Ok p) = (network_of p ≡ x) × Replayed m (meaning x) asked events (state meaning p)
ReplayAnswer meaning m x asked events (Err y) = (y ≡ x) × (events ≡ asked)
