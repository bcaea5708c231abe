use Rattle.std.proofs.Common.{◌≡◌, rules}
use Rattle.console.specs.declared.command.Command.TheVariants.{Plan, Guarantee, Route, Backup, Withdraw, Restore, TraceLink, TraceGroup}
use Rattle.planner.specs.Planners.{state}
use Rattle.planner.proofs.Sound.{right}
use Rattle.console.specs.declared.print.Answer.TheVariants.{Done, Count, Value, Places}
use Rattle.dialogue.specs.Outcomes.{mapped, pair_traced}
use Rattle.dialogue.proofs.Carrying.{plan_carried, withdraw_carried, restore_carried, guarantee_carried, route_carried, backup_carried, trace_link_carried, trace_group_carried}
use Rattle.dialogue.proofs.command.carry_out.Goals as goal

pub returns-in-Plan-clause-answer : goal.returns-in-Plan-clause-answer
returns-in-Plan-clause-answer g c =
    let is : c.args.command ≡ Plan c.from.result = cc in
    let said : c.map.result ≡ mapped Count c.plan.result = search rules in
    plan_carried g.M.Measure.scale (state g.N.Network.meaning c.args.planner.now) c.args.command c.map.result _ _ _ c.from.result is c.plan.result said c.plan.ensures.answer c.plan.ensures.follows

pub returns-in-Guarantee-clause-answer : goal.returns-in-Guarantee-clause-answer
returns-in-Guarantee-clause-answer g c =
    let is : c.args.command ≡ Guarantee c.from-in-Guarantee.result = cc in
    let said : c.map-in-Guarantee.result ≡ mapped Value c.guarantee.result = search rules in
    guarantee_carried g.M.Measure.scale (state g.N.Network.meaning c.args.planner.now) c.args.command c.map-in-Guarantee.result _ _ g.met.M.Measure.lawful (g.N.Network.limits c.args.planner.now.network) (right c.args.planner.now g.met.M.Measure.lawful (g.N.Network.limits c.args.planner.now.network)) c.from-in-Guarantee.result is c.guarantee.result said c.guarantee.ensures.answer c.guarantee.ensures.follows c.guarantee.ensures.history

pub returns-in-Route-clause-answer : goal.returns-in-Route-clause-answer
returns-in-Route-clause-answer g c =
    let is : c.args.command ≡ Route c.from-in-Route.result = cc in
    let said : c.map-in-Route.result ≡ mapped Places c.route.result = search rules in
    route_carried g.M.Measure.scale (state g.N.Network.meaning c.args.planner.now) c.args.command c.map-in-Route.result _ _ g.met.M.Measure.lawful (g.N.Network.limits c.args.planner.now.network) (right c.args.planner.now g.met.M.Measure.lawful (g.N.Network.limits c.args.planner.now.network)) c.from-in-Route.result is c.route.result said c.route.ensures.answer c.route.ensures.follows c.route.ensures.history

pub returns-in-Backup-clause-answer : goal.returns-in-Backup-clause-answer
returns-in-Backup-clause-answer g c =
    let is : c.args.command ≡ Backup c.from-in-Backup.result = cc in
    let said : c.map-in-Backup.result ≡ mapped Places c.backup.result = search rules in
    backup_carried g.M.Measure.scale (state g.N.Network.meaning c.args.planner.now) c.args.command c.map-in-Backup.result _ _ g.met.M.Measure.lawful (g.N.Network.limits c.args.planner.now.network) (right c.args.planner.now g.met.M.Measure.lawful (g.N.Network.limits c.args.planner.now.network)) c.from-in-Backup.result is c.backup.result said c.backup.ensures.answer c.backup.ensures.follows

pub returns-in-Withdraw-clause-answer : goal.returns-in-Withdraw-clause-answer
returns-in-Withdraw-clause-answer g c =
    let is : c.args.command ≡ Withdraw c.from-in-Withdraw.result = cc in
    let said : c.map-in-Withdraw.result ≡ mapped (λ _. Done) c.withdraw.result = search rules in
    withdraw_carried g.M.Measure.scale (state g.N.Network.meaning c.args.planner.now) c.args.command c.map-in-Withdraw.result _ _ _ c.from-in-Withdraw.result is c.withdraw.result said c.withdraw.ensures.answer c.withdraw.ensures.follows

pub returns-in-Restore-clause-answer : goal.returns-in-Restore-clause-answer
returns-in-Restore-clause-answer g c =
    let is : c.args.command ≡ Restore c.from-in-Restore.result = cc in
    let said : c.map-in-Restore.result ≡ mapped (λ _. Done) c.restore.result = search rules in
    restore_carried g.M.Measure.scale (state g.N.Network.meaning c.args.planner.now) c.args.command c.map-in-Restore.result _ _ _ c.from-in-Restore.result is c.restore.result said c.restore.ensures.answer c.restore.ensures.follows

pub returns-in-TraceLink-clause-answer : goal.returns-in-TraceLink-clause-answer
returns-in-TraceLink-clause-answer g c =
    let is : c.args.command ≡ TraceLink c.from-in-TraceLink.result c.in-TraceLink.k = cc in
    let said : c.map-in-TraceLink.result ≡ mapped pair_traced c.trace.result = search rules in
    trace_link_carried g.M.Measure.scale (state g.N.Network.meaning c.args.planner.now) c.args.command c.map-in-TraceLink.result _ _ g.met.M.Measure.lawful (g.N.Network.limits c.args.planner.now.network) (right c.args.planner.now g.met.M.Measure.lawful (g.N.Network.limits c.args.planner.now.network)) c.from-in-TraceLink.result c.in-TraceLink.k c.trace.result said is c.trace.ensures.answer c.trace.ensures.follows c.trace.ensures.history

pub returns-in-TraceGroup-clause-answer : goal.returns-in-TraceGroup-clause-answer
returns-in-TraceGroup-clause-answer g c =
    let is : c.args.command ≡ TraceGroup c.from-in-TraceGroup.result c.in-TraceGroup.b = cc in
    let said : c.map-in-TraceGroup.result ≡ mapped pair_traced c.trace-in-TraceGroup.result = search rules in
    trace_group_carried g.M.Measure.scale (state g.N.Network.meaning c.args.planner.now) c.args.command c.map-in-TraceGroup.result _ _ g.met.M.Measure.lawful (g.N.Network.limits c.args.planner.now.network) (right c.args.planner.now g.met.M.Measure.lawful (g.N.Network.limits c.args.planner.now.network)) c.from-in-TraceGroup.result c.in-TraceGroup.b c.trace-in-TraceGroup.result said is c.trace-in-TraceGroup.ensures.answer c.trace-in-TraceGroup.ensures.follows c.trace-in-TraceGroup.ensures.history
