use Rattle.std.proofs.Common.{◌<◌, false, length, refl, ◌∙◌, arith}
use Rattle.planner.specs.Planners.{state, network_of}
use Rattle.histories.specs.declared.call.Call.TheVariants as call
use Rattle.histories.specs.declared.call.Event.{Event}
use Rattle.runs.proofs.Replaying.{replay_more, same_calls}
use Rattle.runs.proofs.replay.Goals as goal

pub loop-event-preserved : goal.loop-event-preserved
loop-event-preserved g c =
    let n = g.N.Network.meaning (network_of c.in_ok-planner.planner) in
    let xs = c.loop-event.events in
    let i = c.loop-event.event-index in
    let d : Event = record { call = call.Withdraw 0; accepted = false } in
    let lt : i < length xs = omega arith in
    let next = replay_more g.M.Measure.scale n xs i _ c.perform-event.result (state g.N.Network.meaning c.loop-event.planner) _ lt c.perform-event.ensures.follows c.loop-event.invariant.0 c.loop-event.invariant.1 in
    (next.0, next.1, same_calls xs i _ d refl ∙ c.loop-event.invariant.2, c.perform-event.ensures.keeps ∙ c.loop-event.invariant.3)
