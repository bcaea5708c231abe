use Rattle.std.proofs.Common.{◌≡◌, ℕ, ◌≤◌, min, ◌↔◌, List, length, sym, refl, subst₂, arith, rules}
use Rattle.planner.specs.Planners.{state, network_of}
use Rattle.histories.specs.Histories.{Follows}
use Rattle.histories.proofs.Following.{route_follows, backup_follows, trace_follows}
use Rattle.runs.proofs.perform.Goals as goal

-- a buffer of 512 places at most holds whatever any longer one would
capped : (room size : ℕ) → size ≡ min room 512 → (ks : List ℕ) → length ks ≤ 511 → (length ks ≤ room) ↔ (length ks ≤ size)
capped room size e ks short = (λ le. omega arith, λ le. omega arith)

pub returns-in-Withdraw : goal.returns-in-Withdraw
returns-in-Withdraw g c =
    let s = state g.N.Network.meaning c.args.planner.now in
    let s' = state g.N.Network.meaning c.withdraw.new.self in
    record { follows = subst₂ (λ y b. Follows g.M.Measure.scale s y b s') (sym c.in-Withdraw.is) (sym c.is_ok.ensures.value) c.withdraw.ensures.follows; keeps = c.withdraw.ensures.keeps }

pub returns-in-Restore : goal.returns-in-Restore
returns-in-Restore g c =
    let s = state g.N.Network.meaning c.args.planner.now in
    let s' = state g.N.Network.meaning c.restore.new.self in
    record { follows = subst₂ (λ y b. Follows g.M.Measure.scale s y b s') (sym c.in-Restore.is) (sym c.is_ok-in-Restore.ensures.value) c.restore.ensures.follows; keeps = c.restore.ensures.keeps }

pub returns-in-Plan : goal.returns-in-Plan
returns-in-Plan g c =
    let s = state g.N.Network.meaning c.args.planner.now in
    let s' = state g.N.Network.meaning c.plan.new.self in
    record { follows = subst₂ (λ y b. Follows g.M.Measure.scale s y b s') (sym c.in-Plan.is) (sym c.is_ok-in-Plan.ensures.value) c.plan.ensures.follows; keeps = c.plan.ensures.keeps }

pub returns-in-Guarantee : goal.returns-in-Guarantee
returns-in-Guarantee g c =
    let s = state g.N.Network.meaning c.args.planner.now in
    let s' = state g.N.Network.meaning c.args.planner.now in
    record { follows = subst₂ (λ y b. Follows g.M.Measure.scale s y b s') (sym c.in-Guarantee.is) (sym c.is_ok-in-Guarantee.ensures.value) c.guarantee.ensures.follows; keeps = refl }

pub returns-in-Next : goal.returns-in-Next
returns-in-Next g c =
    let s = state g.N.Network.meaning c.args.planner.now in
    let s' = state g.N.Network.meaning c.args.planner.now in
    record { follows = subst₂ (λ y b. Follows g.M.Measure.scale s y b s') (sym c.in-Next.is) (sym c.is_ok-in-Next.ensures.value) c.next.ensures.follows; keeps = refl }

pub returns-in-Route : goal.returns-in-Route
returns-in-Route g c =
    let m = g.M.Measure.scale in
    let p = c.args.planner.now in
    let s = state g.N.Network.meaning p in
    record {
      follows = subst₂ (λ y b. Follows m s y b s) (sym c.in-Route.is) (sym c.is_ok-in-Route.ensures.value)
          (route_follows m g.met.M.Measure.lawful s (g.N.Network.limits (network_of p)) c.in-Route.node _ _ c.in-Route.room (capped c.in-Route.room _ (search rules)) c.route.result c.route.ensures.answer);
      keeps = refl;
    }

pub returns-in-Backup : goal.returns-in-Backup
returns-in-Backup g c =
    let m = g.M.Measure.scale in
    let p = c.args.planner.now in
    let s = state g.N.Network.meaning p in
    record {
      follows = subst₂ (λ y b. Follows m s y b s) (sym c.in-Backup.is) (sym c.is_ok-in-Backup.ensures.value)
          (backup_follows m g.met.M.Measure.lawful s (g.N.Network.limits (network_of p)) c.in-Backup.node _ _ c.in-Backup.room (capped c.in-Backup.room _ (search rules)) c.backup.result c.backup.ensures.answer);
      keeps = refl;
    }

pub returns-in-Trace : goal.returns-in-Trace
returns-in-Trace g c =
    let m = g.M.Measure.scale in
    let p = c.args.planner.now in
    let s = state g.N.Network.meaning p in
    record {
      follows = subst₂ (λ y b. Follows m s y b s) (sym c.in-Trace.is) (sym c.is_ok-in-Trace.ensures.value)
          (trace_follows m g.met.M.Measure.lawful s (g.N.Network.limits (network_of p)) c.in-Trace.node _ _ c.in-Trace.room (capped c.in-Trace.room _ (search rules)) c.in-Trace.failure c.trace.result c.trace.ensures.answer);
      keeps = refl;
    }
