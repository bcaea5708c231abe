use Rattle.std.proofs.Common.{subst₂}
use Rattle.definitions.specs.Networks.{place}
use Rattle.definitions.specs.Searches.{given as valued, Labels, Nexts}
use Rattle.frontier.specs.Records.{value_of, steps_of, next_of}
use Rattle.frontier.proofs.Worsts.{recovered_fitting, worst_found, worst_best, worst_next}
use Rattle.search.proofs.guarantees.worst_tables.Goals as goal

pub new-graph-requires : goal.new-graph-requires
new-graph-requires g c =
    recovered_fitting g.M.Measure.scale g.met.M.Measure.lawful (g.N.Network.meaning c.args.network.now) (g.N.Network.limits c.args.network.now) c.args.t _ c.in_ok-recovery_values.ensures.found.of_link

pub returns-clause-found : goal.returns-clause-found
returns-clause-found g c =
    let m = g.M.Measure.scale in
    let M = g.met.M.Measure.lawful in
    let net = g.N.Network.meaning c.args.network.now in
    let few = g.N.Network.limits c.args.network.now in
    let R = c.in_ok-recovery_values.ensures.found in
    let r = place c.recovery_values.new.recoveries in
    let rs = c.best_records.new.records in
    let told = c.new-graph.ensures in
    let labels : Labels (valued m r) net c.args.t (value_of rs) = subst₂ (λ n xs. Labels (valued m (place xs)) (g.N.Network.meaning n) c.args.t (value_of rs)) told.network told.recoveries c.best_records.ensures.labels in
    let nexts : Nexts (valued m r) net c.args.t (steps_of rs) (next_of rs) = subst₂ (λ n xs. Nexts (valued m (place xs)) (g.N.Network.meaning n) c.args.t (steps_of rs) (next_of rs)) told.network told.recoveries c.best_records.ensures.nexts in
    record {
      recovered = R;
      guarantee = worst_best m M net few c.args.t r R.of_link _ labels;
      labels = worst_found m M net few c.args.t r R.of_link _ labels;
      nexts = worst_next m M net few c.args.t r R.of_link _ labels _ _ nexts;
      idle = c.best_records.ensures.idle;
    }
