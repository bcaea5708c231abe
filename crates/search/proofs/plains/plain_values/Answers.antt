use Rattle.std.proofs.Common.{◌<◌, sym, refl, subst, arith}
use Rattle.frontier.proofs.Plains.{plain_found, plain_best}
use Rattle.search.specs.Answers.{PlainValues}
use Rattle.search.proofs.plains.plain_values.Goals as goal

pub returns-clause-found : goal.returns-clause-found
returns-clause-found g c =
    let m = g.M.Measure.scale in
    let M = g.met.M.Measure.lawful in
    let graph = c.plain_graph-graph.result in
    let net = g.N.Network.meaning graph.network.now in
    let few = g.N.Network.limits graph.network.now in
    let places = few.few_places in
    subst (λ n. PlainValues m (g.N.Network.meaning n) c.args.t c.best_values.new.records) c.plain_graph-graph.ensures.network
    (record {
      inside = subst (λ n. c.args.t < (g.N.Network.meaning n).nodes) (sym c.plain_graph-graph.ensures.network) c.in_ok-check_destination.ensures.node;
      best = plain_best m M net few c.args.t graph.recoveries.now _ _ c.plain_graph-graph.ensures.starts refl (omega arith) _ c.best_values.ensures.labels;
      labels = plain_found m M net few c.args.t graph.recoveries.now _ _ c.plain_graph-graph.ensures.starts refl (omega arith) _ c.best_values.ensures.labels;
      unreached = c.best_values.ensures.unreached;
    })
