use Rattle.std.proofs.Common.{rules, arith}
use Rattle.definitions.specs.Networks.{place}
use Rattle.search.proofs.Columns.{value_room, values_set}
use Rattle.search.proofs.Offers.{offering_all}
use Rattle.search.proofs.graph.Graph.settle.Goals as goal

pub returns-clause-settled : goal.returns-clause-settled
returns-clause-settled g c = values_set c.args.records.now _ _ _ c.from.ensures

pub returns-clause-offered : goal.returns-clause-offered
returns-clause-offered g c =
    let net = g.N.Network.meaning c.args.self.now.network.now in
    let few = (g.N.Network.limits c.args.self.now.network.now).few_places in
    let room = value_room c.args.records.now net _ (omega arith) c.requires.fresh in
    let (ks, made) = c.offer_links.ensures in
    offering_all g.M.Measure.scale g.met.M.Measure.lawful (place c.args.self.now.recoveries.now) net c.args.self.now.fitting (g.N.Network.limits c.args.self.now.network.now) _ c.args.candidate c.args.heap.now
    _ (λ k o lt off. search rules) c.requires.order (omega arith) ks 0 c.offer_links.new.heap made
