use Rattle.std.proofs.Common.{◌≡◌, ◌≤◌, length, refl, sym, ap, ◌∙◌, subst₂, arith, length-set}
use Rattle.std.proofs.lemmas.List.Sorted.{length_permutation}
use Rattle.definitions.specs.Networks.{place, Holds}
use Rattle.definitions.specs.Searches.{Nexts}
use Rattle.heap.specs.Holds.{held}
use Rattle.heap.proofs.Held.{heaped_none}
use Rattle.frontier.specs.Hops.{NoNext}
use Rattle.frontier.specs.Progress.{leads_on, links_open}
use Rattle.frontier.specs.Records.{steps_of, steps_in, nexts_in}
use Rattle.frontier.proofs.Offering.{read_holds, not_both_links}
use Rattle.std.proofs.lemmas.List.Sums.{count_by-le-length}
use Rattle.frontier.proofs.Walking.{walking_start, walking_skip, walking_settle, walking_end, hop_holds, hop_short, count_less}
use Rattle.search.proofs.Columns.{steps_list, next_list, steps_long, next_long, steps_unset, steps_there, hopping_list, still_none, walking_nexts}
use Rattle.search.proofs.graph.Graph.next_links.Goals as goal

pub count_node-requires-clause-order : goal.count_node-requires-clause-order
count_node-requires-clause-order g c = heaped_none _ _ c.new-heap.ensures.none

pub count_node-requires-clause-room : goal.count_node-requires-clause-room
count_node-requires-clause-room g c =
    let net = g.N.Network.meaning c.args.self.now.network.now in
    let few : links_open net (steps_of c.args.records.now) ≤ length net.places = count_by-le-length (leads_on (steps_of c.args.records.now)) net.places in
    let bare : length (held c.new-heap.result) ≡ 0 = ap length c.new-heap.ensures.none in
    omega arith

pub loop-hop-init : goal.loop-hop-init
loop-hop-init g c =
    let rs = c.args.records.now in
    let nodes = (g.N.Network.limits c.args.self.now.network.now).few_nodes in
    let long = steps_long rs in
    let long2 = next_long rs in (
      walking_nexts _ _ _ _ _ _ _ c.count_node.ensures.nexts
          (walking_start _ _ (g.N.Network.limits c.args.self.now.network.now) c.args.t _ c.requires.labels (steps_in rs) _ c.new-heap.result c.count_node.new.heap
          (λ u. ap (λ s. s u) (sym (steps_list rs)) ∙ (c.requires.unreached u).0)
          (still_none (nexts_in rs) c.args.t (omega arith) (λ u. ap (λ s. s u) (sym (next_list rs)) ∙ (c.requires.unreached u).1))
          (omega arith) (omega arith) (simp length-set (omega arith)) c.new-heap.ensures.none (omega arith) _ c.count_node.ensures.steps
          (hopping_list c.count_node.new.records rs c.count_node.ensures.values _ _ _ _ _ 0 c.count_node.ensures.offered)),
      c.count_node.ensures.values,
    )

pub loop-hop-smaller-in_default-place : goal.loop-hop-smaller-in_default-place
loop-hop-smaller-in_default-place g c = let told = c.in-Some.ensures in omega (arith, length_permutation _ _ told.entries)

pub loop-hop-preserved-in_default-place : goal.loop-hop-preserved-in_default-place
loop-hop-preserved-in_default-place g c =
    let told = c.in-Some.ensures in
    let (l, h) = hop_holds _ _ (g.N.Network.limits c.args.self.now.network.now) c.args.t _ c.requires.labels (steps_in c.loop-hop.records) (nexts_in c.loop-hop.records) c.loop-hop.heap c.pop.new.self
    c.loop-hop.invariant.0 c.in-Some.hop told.entries told.order told.first told.slots in
    let e : Holds (g.N.Network.meaning c.args.self.now.network.now) c.from.result l = ap (place (g.N.Network.meaning c.args.self.now.network.now).places) c.from.ensures ∙ h in
    absurd (not_both_links _ l e (sym c.in_default-place.ensures))

pub count_node-requires-then-is_none-clause-short : goal.count_node-requires-then-is_none-clause-short
count_node-requires-then-is_none-clause-short g c =
    let told = c.in-Some.ensures in
    let short = hop_short _ _ (g.N.Network.limits c.args.self.now.network.now) c.args.t _ c.requires.labels (steps_in c.loop-hop.records) (nexts_in c.loop-hop.records) c.loop-hop.heap c.pop.new.self
    c.loop-hop.invariant.0 c.in-Some.hop told.entries told.order told.first told.slots in
    let few = (g.N.Network.limits c.args.self.now.network.now).few_places in
    omega arith

pub count_node-requires-then-is_none-clause-order : goal.count_node-requires-then-is_none-clause-order
count_node-requires-then-is_none-clause-order g c = c.in-Some.ensures.order c.loop-hop.invariant.0.order

pub count_node-requires-then-is_none-clause-room : goal.count_node-requires-then-is_none-clause-room
count_node-requires-then-is_none-clause-room g c =
    let told = c.in-Some.ensures in
    let short = hop_short _ _ (g.N.Network.limits c.args.self.now.network.now) c.args.t _ c.requires.labels (steps_in c.loop-hop.records) (nexts_in c.loop-hop.records) c.loop-hop.heap c.pop.new.self
    c.loop-hop.invariant.0 c.in-Some.hop told.entries told.order told.first told.slots in
    let room = c.loop-hop.invariant.0.room in
    let same = told.slots in
    let list = ap (links_open (g.N.Network.meaning c.args.self.now.network.now)) (steps_list c.loop-hop.records) in
    omega arith

pub loop-hop-smaller-then-is_none : goal.loop-hop-smaller-then-is_none
loop-hop-smaller-then-is_none g c =
    let told = c.in-Some.ensures in
    let less = count_less _ _ (g.N.Network.limits c.args.self.now.network.now) c.args.t _ c.requires.labels (steps_in c.loop-hop.records) (nexts_in c.loop-hop.records) c.loop-hop.heap c.pop.new.self
    c.loop-hop.invariant.0 c.in-Some.hop told.entries told.order told.first told.slots c.in-Some-place.link
    (read_holds (g.N.Network.meaning c.args.self.now.network.now) c.in-Some.hop.link c.from.result c.in-Some-place.link c.from.ensures c.in-Some-place.ensures)
    c.count_node-then-is_none.new.heap (steps_unset c.loop-hop.records _ _ c.record_at.ensures c.if-is_none.ensures) _ c.count_node-then-is_none.ensures.steps
    (hopping_list c.count_node-then-is_none.new.records c.args.records.now (c.count_node-then-is_none.ensures.values ∙ c.loop-hop.invariant.1) _ _ _ _ _ 0 c.count_node-then-is_none.ensures.offered) in
    let before = ap (links_open (g.N.Network.meaning c.args.self.now.network.now)) (steps_list c.loop-hop.records) in
    let after = ap (links_open (g.N.Network.meaning c.args.self.now.network.now)) (steps_list c.count_node-then-is_none.new.records) in
    omega arith

pub loop-hop-preserved-then-is_none : goal.loop-hop-preserved-then-is_none
loop-hop-preserved-then-is_none g c =
    let told = c.in-Some.ensures in
    let turn = walking_settle _ _ (g.N.Network.limits c.args.self.now.network.now) c.args.t _ c.requires.labels (steps_in c.loop-hop.records) (nexts_in c.loop-hop.records) c.loop-hop.heap c.pop.new.self
    c.loop-hop.invariant.0 c.in-Some.hop told.entries told.order told.first told.slots c.in-Some-place.link
    (read_holds (g.N.Network.meaning c.args.self.now.network.now) c.in-Some.hop.link c.from.result c.in-Some-place.link c.from.ensures c.in-Some-place.ensures)
    c.count_node-then-is_none.new.heap (steps_unset c.loop-hop.records _ _ c.record_at.ensures c.if-is_none.ensures) _ c.count_node-then-is_none.ensures.steps c.in-Some-place.link.tail refl
    (hopping_list c.count_node-then-is_none.new.records c.args.records.now (c.count_node-then-is_none.ensures.values ∙ c.loop-hop.invariant.1) _ _ _ _ _ 0 c.count_node-then-is_none.ensures.offered) in
    (walking_nexts _ _ _ _ _ _ _ c.count_node-then-is_none.ensures.nexts turn, c.count_node-then-is_none.ensures.values ∙ c.loop-hop.invariant.1)

pub loop-hop-smaller : goal.loop-hop-smaller
loop-hop-smaller g c = let told = c.in-Some.ensures in omega (arith, length_permutation _ _ told.entries)

pub loop-hop-preserved : goal.loop-hop-preserved
loop-hop-preserved g c =
    let told = c.in-Some.ensures in
    let (a, e) = steps_there c.loop-hop.records _ _ c.record_at.ensures c.if-is_none.ensures in (
      walking_skip _ _ (g.N.Network.limits c.args.self.now.network.now) c.args.t _ c.requires.labels (steps_in c.loop-hop.records) (nexts_in c.loop-hop.records) c.loop-hop.heap c.pop.new.self
          c.loop-hop.invariant.0 c.in-Some.hop told.entries told.order told.first told.slots c.in-Some-place.link
          (read_holds (g.N.Network.meaning c.args.self.now.network.now) c.in-Some.hop.link c.from.result c.in-Some-place.link c.from.ensures c.in-Some-place.ensures) a e,
      c.loop-hop.invariant.1,
    )

pub returns-clause-values : goal.returns-clause-values
returns-clause-values g c = c.loop-hop.invariant.1

pub returns-clause-nexts : goal.returns-clause-nexts
returns-clause-nexts g c = subst₂ (Nexts _ _ _) (sym (steps_list c.loop-hop.records)) (sym (next_list c.loop-hop.records))
    (walking_end _ _ (g.N.Network.limits c.args.self.now.network.now) c.args.t _ c.requires.labels (steps_in c.loop-hop.records) (nexts_in c.loop-hop.records) c.loop-hop.heap c.loop-hop.invariant.0 c.in_default.ensures.entries.0)

pub returns-clause-idle : goal.returns-clause-idle
returns-clause-idle g c = subst₂ (NoNext _) (sym (steps_list c.loop-hop.records)) (sym (next_list c.loop-hop.records)) c.loop-hop.invariant.0.idle
