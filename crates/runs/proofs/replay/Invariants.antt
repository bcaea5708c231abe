use Rattle.std.proofs.Common.{◌≡◌, map, reverse, take}
use Rattle.planner.specs.Planners.{state, network_of}
use Rattle.histories.specs.Histories.{After, Ran}
use Rattle.runs.proofs.replay.Given as goal

abbrev pub invariant-loop-event : goal.invariant-loop-event
invariant-loop-event g l =
    let m = g.M.Measure.scale in
    let n = g.N.Network.meaning (network_of l.initial.planner) in
    let h = reverse (take l.event-index l.events) in
    Ran m n h × After m n h (state g.N.Network.meaning l.planner) × (map (λ e. e.call) l.events ≡ map (λ e. e.call) l.initial.events) × (network_of l.planner ≡ network_of l.initial.planner)
