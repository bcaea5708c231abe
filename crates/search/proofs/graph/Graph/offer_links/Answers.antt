use Rattle.std.proofs.Common.{refl, sym, ap, ◌∙◌, [], Some, None}
use Rattle.frontier.specs.Progress.{above}
use Rattle.search.proofs.Bounds.{start_below, step_below, bound_is, offered_more}
use Rattle.search.proofs.graph.Graph.offer_links.Goals as goal

pub loop-k-init : goal.loop-k-init
loop-k-init g c =
    let net = g.N.Network.meaning c.args.self.now.network.now in
    let same = c.into_iter-k-iterator.ensures.into_iter_gives in
    let (le, none, along) = start_below net c.args.self.now.index.now c.args.node c.into_iter-k-iterator.result (ap (λ s. s.index.now) same ∙ c.links_into-k-items.ensures.index)
    (ap (λ s. s.cursor) same ∙ c.links_into-k-items.ensures.cursor) c.args.self.now.indexed in
    (tt, tt, along, ([], (refl, le, none)))

pub loop-k-preserved-in-Some-offer : goal.loop-k-preserved-in-Some-offer
loop-k-preserved-in-Some-offer g c =
    let net = g.N.Network.meaning c.args.self.now.network.now in
    let (le, none, along) = step_below net c.args.node c.in-Some.k c.loop-k.k-iterator c.next.new.self c.loop-k.invariant.2 c.in-Some.ensures.steps in
    let (ks, before) = c.loop-k.invariant.3 in (
      tt,
      tt,
      along,
      offered_more _ net c.args.node _ c.args.heap.now c.loop-k.k-iterator c.next.new.self c.in-Some.k c.in-Some.ensures.steps le none ks c.loop-k.heap c.push.new.self before
          (Some c.in-Some-offer.entry) c.in-Some-offer.ensures
          (record { answer = c.push.result; entries = c.push.ensures.entries; room = c.push.ensures.room; order = c.push.ensures.order; slots = c.push.ensures.slots }),
    )

pub loop-k-preserved : goal.loop-k-preserved
loop-k-preserved g c =
    let net = g.N.Network.meaning c.args.self.now.network.now in
    let (le, none, along) = step_below net c.args.node c.in-Some.k c.loop-k.k-iterator c.next.new.self c.loop-k.invariant.2 c.in-Some.ensures.steps in
    let (ks, before) = c.loop-k.invariant.3 in (
      tt,
      tt,
      along,
      offered_more _ net c.args.node _ c.args.heap.now c.loop-k.k-iterator c.next.new.self c.in-Some.k c.in-Some.ensures.steps le none ks c.loop-k.heap c.loop-k.heap before
          None c.in_default.ensures refl,
    )

pub returns : goal.returns
returns g c =
    let (ks, before) = c.loop-k.invariant.3 in
    (ks, bound_is _ (g.N.Network.meaning c.args.self.now.network.now) c.args.node _ c.args.heap.now ks _ 0 c.loop-k.heap (ap above (sym c.in-None.ensures.steps.0)) before)
