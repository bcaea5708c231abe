use Rattle.planner.proofs.Keeping.{withdraw_kept}
use Rattle.planner.proofs.planner.Planner.withdraw.Goals as goal

pub returns : goal.returns
returns g c =
    let a = c.set_mark.ensures in
    withdraw_kept g.N.Network.meaning g.N.Network.limits g.M.Measure.scale c.args.self.now c.set_mark.new.self c.args.place c.set_mark.result a.answer a.keeps a.unchanged
