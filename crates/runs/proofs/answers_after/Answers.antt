use Rattle.std.proofs.Common.{◌∙◌}
use Rattle.histories.specs.State.{marked}
use Rattle.planner.specs.Planners.{state, network_of}
use Rattle.runs.proofs.Promised.{answers_right}
use Rattle.runs.proofs.answers_after.Goals as goal

pub returns : goal.returns
returns g c =
    let told = c.in_ok-planner.ensures in
    let p = c.in_ok-planner.planner in
    let s = state g.N.Network.meaning p in (
      c.close.ensures ∙ told.0,
      record {
        calls = told.1.calls;
        ran = told.1.ran;
        withdrawn = (marked s.marks, told.1.after.marks);
        promise = answers_right g.M.Measure.scale g.met.M.Measure.lawful s (g.N.Network.limits (network_of p)) c.args.node c.args.failure _ _ _ _ _
            c.guarantee.ensures.answer c.route.ensures.answer c.trace.ensures.answer (g.N.Network.meaning c.args.network) _ told.1.after;
      },
    )
