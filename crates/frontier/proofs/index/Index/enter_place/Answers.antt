use Rattle.std.proofs.Common.{sym, arith}
use Rattle.frontier.proofs.Indexing.{index_none, indexing_some}
use Rattle.frontier.proofs.index.Index.enter_place.Goals as goal

pub returns-in-Some : goal.returns-in-Some
returns-in-Some g c =
    let net = g.N.Network.meaning c.args.network.now in
    let N = g.N.Network.limits c.args.network.now in
    let sound = N.sound c.args.k c.in-Some.link (sym c.in-Some.ensures) in
    let nodes = N.few_nodes in
    let places = N.few_places in
    indexing_some net c.args.self.now c.args.k c.from.result c.in-Some.link c.replace.result _ (sym c.in-Some.ensures) c.from.ensures
    c.replace.ensures.value c.replace.ensures.after (omega arith) (omega arith) c.requires.below

pub returns-in_default : goal.returns-in_default
returns-in_default g c = index_none (g.N.Network.meaning c.args.network.now) _ _ c.args.k (sym c.in_default.ensures) c.requires.below
