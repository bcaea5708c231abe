use Rattle.std.proofs.Common.{refl, rules, arith}
use Rattle.std.proofs.Math.Seq.{map-set_same}
use Rattle.definitions.proofs.Givens.{given_lawful}
use Rattle.frontier.specs.Records.{blank}
use Rattle.search.proofs.Columns.{steps_room, steps_set, nexts_set}
use Rattle.search.proofs.Offers.{hopping_all}
use Rattle.search.proofs.graph.Graph.count_node.Goals as goal

pub returns-clause-steps : goal.returns-clause-steps
returns-clause-steps g c = steps_set c.args.records.now _ _ _ c.from.ensures

pub returns-clause-nexts : goal.returns-clause-nexts
returns-clause-nexts g c = nexts_set c.args.records.now _ _ _ c.from.ensures

pub returns-clause-values : goal.returns-clause-values
returns-clause-values g c = map-set_same (λ r. r.value) c.args.records.now c.from.result _ blank refl

pub returns-clause-offered : goal.returns-clause-offered
returns-clause-offered g c =
    let net = g.N.Network.meaning c.args.self.now.network.now in
    let L = given_lawful _ g.met.M.Measure.lawful net (g.N.Network.limits c.args.self.now.network.now) 0 _ c.args.self.now.fitting in
    let room = steps_room c.args.records.now net _ (omega arith) c.requires.fresh in
    let (ks, made) = c.offer_links.ensures in
    hopping_all _ net _ _ c.args.from c.args.heap.now _ L _ (λ k o lt off. search rules) c.requires.order (omega arith) ks 0 c.offer_links.new.heap made
