use Rattle.std.proofs.Common.{◌<◌, sym, refl, subst, arith}
use Rattle.frontier.proofs.Plains.{plain_found, plain_best, plain_next}
use Rattle.search.specs.Answers.{PlainTables}
use Rattle.search.proofs.plains.plain_tables.Goals as goal

pub returns-clause-found : goal.returns-clause-found
returns-clause-found g c =
    let m = g.M.Measure.scale in
    let M = g.met.M.Measure.lawful in
    let graph = c.plain_graph-graph.result in
    let net = g.N.Network.meaning graph.network.now in
    let few = g.N.Network.limits graph.network.now in
    let places = few.few_places in
    subst (λ n. PlainTables m (g.N.Network.meaning n) c.args.t c.best_records.new.records) c.plain_graph-graph.ensures.network
    (record {
      inside = subst (λ n. c.args.t < (g.N.Network.meaning n).nodes) (sym c.plain_graph-graph.ensures.network) c.in_ok-check_destination.ensures.node;
      best = plain_best m M net few c.args.t graph.recoveries.now _ _ c.plain_graph-graph.ensures.starts refl (omega arith) _ c.best_records.ensures.labels;
      labels = plain_found m M net few c.args.t graph.recoveries.now _ _ c.plain_graph-graph.ensures.starts refl (omega arith) _ c.best_records.ensures.labels;
      nexts = plain_next m M net few c.args.t graph.recoveries.now _ _ c.plain_graph-graph.ensures.starts refl (omega arith) _ c.best_records.ensures.labels _ _ c.best_records.ensures.nexts;
      idle = c.best_records.ensures.idle;
    })
