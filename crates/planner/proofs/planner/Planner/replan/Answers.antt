use Rattle.std.proofs.Common.{◌≡◌, take, vec_items, sym, refl, ap, ◌∙◌, subst, ap₂, arith, take_at}
use Rattle.std.specs.Vec.{with_items}
use Rattle.definitions.specs.Networks.{withdrawn}
use Rattle.definitions.specs.Plans.{worst, Planned}
use Rattle.planner.specs.Planners.{state}
use Rattle.histories.specs.State.{in_service}
use Rattle.routes.specs.Records.{Recorded}
use Rattle.planner.specs.Tally.{tallied}
use Rattle.routes.proofs.Leading.{searched}
use Rattle.planner.proofs.Counting.{counted}
use Rattle.histories.proofs.Reading.{service_limits}
use Rattle.planner.proofs.planner.Planner.replan.Goals as goal

pub returns : goal.returns
returns g c = record {
  after =
      let p = c.args.self.now in
      let m = g.M.Measure.scale in
      let n = g.N.Network.meaning p.network in
      let lt = c.requires in
      let t = c.args.destination in
      let s = state g.N.Network.meaning p in
      let ws = c.worst_records.new.records in
      let items : vec_items (with_items p.records ws) ≡ ws = take_at ws _ p.records.len (omega (arith, c.worst_records.auto.records, c.deref_mut.ensures.len, p.nodes)) in
      let found : Recorded (worst m (in_service s) t) (in_service s) t ws =
      subst (λ a. Recorded (worst m (withdrawn a n) t) (withdrawn a n) t ws) c.deref.ensures.value (searched _ _ t _ ws _ lt (omega (arith, c.deref_mut.ensures.len, p.nodes)) c.worst_records.ensures) in
      record {
        net = refl;
        marks = refl;
        standing = refl;
        right = (lt, subst (λ rs. Recorded (worst m (in_service s) t) (in_service s) t rs) (sym items) found);
        count = subst (λ x. Planned m (in_service s) t x) (sym (c.guaranteed_nodes.ensures ∙ ap tallied (ap₂ take c.node_count.ensures (c.deref-2.ensures.value ∙ items))))
            (counted m g.met.M.Measure.lawful (in_service s) (service_limits s (g.N.Network.limits p.network)) t ws found n.nodes (omega (arith, (g.N.Network.limits p.network).few_nodes, c.worst_records.auto.records, c.deref_mut.ensures.len, p.nodes)));
      };
  keeps = refl;
}
