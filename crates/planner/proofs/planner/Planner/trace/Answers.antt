use Rattle.std.proofs.Common.{◌≡◌, ℕ, ◌≤◌, List, ◌++◌, length, take, drop, Ok, Err, vec_items, IsSome, sym, refl, ap, ◌∙◌, subst, subst₂, arith, length-take}
use Rattle.std.proofs.lemmas.Result.{err_from_is_err_and}
use Rattle.planner.specs.Planners.{state}
use Rattle.histories.specs.State.{in_service}
use Rattle.routes.specs.Records.{Leads, next_of}
use Rattle.routes.specs.Walks.{Turned, plain_value}
use Rattle.histories.proofs.Following.{trace_kept}
use Rattle.histories.proofs.Reading.{known}
use Rattle.histories.proofs.Calls.{turn_label, trace_refused, trace_denied, trace_no_room, trace_arrived, trace_no_room_after, trace_turned}
use Rattle.planner.proofs.Sound.{right, all}
use Rattle.planner.proofs.planner.Planner.trace.Goals as goal
use Rattle.planner.proofs.planner.Planner.trace.Goals.{then-turn-destination+else-places-turn, else-turn-destination+in_ok-count}

pub returns-in_err-destination : goal.returns-in_err-destination
returns-in_err-destination g c =
    let p = c.args.self.now in
    let s = state g.N.Network.meaning p in
    let m = g.M.Measure.scale in
    let M = g.met.M.Measure.lawful in
    let N = g.N.Network.limits p.network in
    let x = err_from_is_err_and c.from_residual.result c.from_residual.ensures.1 in
    trace_kept m M s N c.args.node c.args.places.now _ c.args.failure _ (trace_refused m M s N (right p M N) c.args.node c.read.result c.read.ensures c.args.places.now _ c.args.failure _ _ c.in_err-destination.was (x.1 ∙ ap Err x.2) refl)

pub returns-in_err-check_failure : goal.returns-in_err-check_failure
returns-in_err-check_failure g c =
    let p = c.args.self.now in
    let s = state g.N.Network.meaning p in
    let m = g.M.Measure.scale in
    let M = g.met.M.Measure.lawful in
    let N = g.N.Network.limits p.network in
    let x = err_from_is_err_and c.from_residual-in_err-check_failure.result c.from_residual-in_err-check_failure.ensures.1 in
    trace_kept m M s N c.args.node c.args.places.now _ c.args.failure _ (trace_denied m M s N (right p M N) c.args.node c.read.result c.read.ensures c.args.places.now _ c.args.failure _ _ _ c.in_ok-destination.was c.check_failure.result c.check_failure.ensures _ c.in_err-check_failure.was (x.1 ∙ ap Err x.2) refl)

pub returns-then-places-turn : goal.returns-then-places-turn
returns-then-places-turn g c =
    let p = c.args.self.now in
    let s = state g.N.Network.meaning p in
    let m = g.M.Measure.scale in
    let M = g.met.M.Measure.lawful in
    let N = g.N.Network.limits p.network in
    let t = c.in_ok-destination.field-0.destination in
    let turn = c.turning_point-turn.result in
    let turned : Turned (in_service s) (vec_items p.records) t c.args.failure c.args.node turn.node turn.passed =
    subst₂ (λ a b. Turned a b t c.args.failure c.args.node turn.node turn.passed) c.walk-walk.ensures.service c.walk-walk.ensures.records c.turning_point-turn.ensures.turned in
    trace_kept m M s N c.args.node c.args.places.now _ c.args.failure _ (trace_no_room m M s N (right p M N) c.args.node c.read.result c.read.ensures c.args.places.now _ c.args.failure _ _ _ c.in_ok-destination.was c.check_failure.result c.check_failure.ensures c.in_ok-check_failure.was _ _ (all p) turned c.if-turn-destination.true c.if-places-turn.true refl refl)

pub write_backup-requires-clause-guaranteed : goal.write_backup-requires-clause-guaranteed
write_backup-requires-clause-guaranteed g c =
    let p = c.args.self.now in
    let s = state g.N.Network.meaning p in
    let m = g.M.Measure.scale in
    let M = g.met.M.Measure.lawful in
    let N = g.N.Network.limits p.network in
    let t = c.in_ok-destination.field-0.destination in
    let turn = c.turning_point-turn.result in
    let turned : Turned (in_service s) (vec_items p.records) t c.args.failure c.args.node turn.node turn.passed =
    subst₂ (λ a b. Turned a b t c.args.failure c.args.node turn.node turn.passed) c.walk-walk.ensures.service c.walk-walk.ensures.records c.turning_point-turn.ensures.turned in
    let K = known m M s N (right p M N) c.args.node c.read.result _ _ c.read.ensures c.in_ok-destination.was in
    let (a, e) = turn_label m M s N (right p M N) c.args.node c.args.failure t _ turn.node turn.passed (all p) turned K c.if-turn-destination.false in
    subst (λ o. IsSome o) (sym e) refl

pub returns-in_err-count : goal.returns-in_err-count
returns-in_err-count g c =
    let p = c.args.self.now in
    let s = state g.N.Network.meaning p in
    let m = g.M.Measure.scale in
    let M = g.met.M.Measure.lawful in
    let N = g.N.Network.limits p.network in
    let t = c.in_ok-destination.field-0.destination in
    let turn = c.turning_point-turn.result in
    let turned : Turned (in_service s) (vec_items p.records) t c.args.failure c.args.node turn.node turn.passed =
    subst₂ (λ a b. Turned a b t c.args.failure c.args.node turn.node turn.passed) c.walk-walk.ensures.service c.walk-walk.ensures.records c.turning_point-turn.ensures.turned in
    let x = err_from_is_err_and c.from_residual-in_err-count.result c.from_residual-in_err-count.ensures.1 in
    trace_kept m M s N c.args.node c.args.places.now _ c.args.failure _ (trace_no_room_after m M s N (right p M N) c.args.node c.read.result c.read.ensures c.args.places.now _ c.args.failure _ _ _ c.in_ok-destination.was c.check_failure.result c.check_failure.ensures c.in_ok-check_failure.was _ _ (all p) turned c.if-turn-destination.false _ c.write_backup.result c.write_backup.ensures.answer _ c.in_err-count.was (x.1 ∙ ap Err x.2) refl)

pub returns : goal.returns
returns g c =
    let p = c.args.self.now in
    let s = state g.N.Network.meaning p in
    let m = g.M.Measure.scale in
    let M = g.met.M.Measure.lawful in
    let N = g.N.Network.limits p.network in
    let t = c.in_ok-destination.field-0.destination in
    let turn = c.turning_point-turn.result in
    let turned : Turned (in_service s) (vec_items p.records) t c.args.failure c.args.node turn.node turn.passed =
    subst₂ (λ a b. Turned a b t c.args.failure c.args.node turn.node turn.passed) c.walk-walk.ensures.service c.walk-walk.ensures.records c.turning_point-turn.ensures.turned in
    let buffer = c.if-turn-destination.places in
    let count = c.if-turn-destination.count in
    let front = c.write_places.new.places in
    let le : turn.passed ≤ length buffer = elim c.if-turn-destination.branch [
      | then-turn-destination+else-places-turn w ↦ omega (arith, w.if-places-turn.false, c.if-turn-destination.auto.places)
      | else-turn-destination+in_ok-count w ↦ omega (arith, w.in_ok-count.ensures.room.0, w.in_ok-count.ensures.room.1, c.if-turn-destination.auto.places)
    ] in
    let cut : turn.passed ≡ length (take turn.passed buffer) = simp length-take (omega arith) in
    let wrote : (e : ℕ) (ks : List ℕ) → Leads (in_service s) (next_of (vec_items p.records)) e c.args.node ks → length ks ≡ turn.passed → front ≡ ks = λ e ks P z.
    c.write_places.ensures e ks (subst₂ (λ a b. Leads a (next_of b) e c.args.node ks) (sym c.walk-walk.ensures.service) (sym c.walk-walk.ensures.records) P) (z ∙ cut) in
    let value : c.plain_value.result ≡ plain_value m (in_service s) (take count (front ++ drop turn.passed buffer)) =
    subst (λ a. c.plain_value.result ≡ plain_value m a (take count (front ++ drop turn.passed buffer))) c.walk-walk.ensures.service c.plain_value.ensures in
    trace_kept m M s N c.args.node c.args.places.now _ c.args.failure _ (elim c.if-turn-destination.branch [
      | then-turn-destination+else-places-turn w ↦
          trace_arrived m M s N (right p M N) c.args.node c.read.result c.read.ensures c.args.places.now _ c.args.failure _ _ _ c.in_ok-destination.was c.check_failure.result c.check_failure.ensures c.in_ok-check_failure.was _ _ (all p) turned w.if-turn-destination.true w.if-places-turn.false front c.plain_value.result wrote
          (ap (λ x. front ++ drop turn.passed x) w.places-is)
          (subst (λ i. c.plain_value.result ≡ plain_value m (in_service s) (take i (front ++ drop turn.passed buffer))) w.count-is value)
          (ap (λ i. Ok (c.plain_value.result, i)) w.count-is)
      | else-turn-destination+in_ok-count w ↦
          trace_turned m M s N (right p M N) c.args.node c.read.result c.read.ensures c.args.places.now _ c.args.failure _ _ _ c.in_ok-destination.was c.check_failure.result c.check_failure.ensures c.in_ok-check_failure.was _ _ (all p) turned w.if-turn-destination.false w.write_backup.new.places w.write_backup.result w.write_backup.ensures.answer front c.plain_value.result count
          (w.in_ok-count.was ∙ ap Ok (sym w.count-is)) wrote
          (ap (λ x. front ++ drop turn.passed x) w.places-is) value refl
    ])
