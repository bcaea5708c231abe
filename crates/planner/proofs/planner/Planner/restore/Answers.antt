use Rattle.planner.proofs.Keeping.{restore_kept}
use Rattle.planner.proofs.Marking.{restored}
use Rattle.planner.proofs.planner.Planner.restore.Goals as goal

pub returns : goal.returns
returns g c =
    let a = c.set_mark.ensures in
    restore_kept g.N.Network.meaning g.N.Network.limits g.M.Measure.scale c.args.self.now c.set_mark.new.self c.args.place c.set_mark.result (restored _ _ _ _ a.answer) a.keeps a.unchanged
