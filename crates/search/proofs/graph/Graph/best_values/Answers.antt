use Rattle.std.proofs.Common.{◌≡◌, ◌≤◌, length, replicate, rules, sym, ap, ◌∙◌, subst, arith}
use Rattle.std.proofs.lemmas.List.Sorted.{length_permutation}
use Rattle.definitions.specs.Searches.{Labels}
use Rattle.heap.specs.Holds.{held}
use Rattle.heap.proofs.Held.{heaped_none}
use Rattle.frontier.specs.Progress.{leads_on, links_open}
use Rattle.frontier.specs.Records.{blank, value_of, values_in}
use Rattle.std.proofs.lemmas.List.Sums.{count_by-le-length}
use Rattle.frontier.proofs.Searching.{searching_start, searching_skip, searching_settle, searching_end, popped_inside, settle_less}
use Rattle.search.proofs.Columns.{value_list, value_long, value_unset, value_there, cleared, offering_list}
use Rattle.search.proofs.graph.Graph.best_values.Goals as goal

pub settle-requires-clause-order : goal.settle-requires-clause-order
settle-requires-clause-order g c = heaped_none _ _ c.new-heap.ensures.none

pub settle-requires-clause-room : goal.settle-requires-clause-room
settle-requires-clause-room g c =
    let net = g.N.Network.meaning c.args.self.now.network.now in
    let few : links_open net (value_of c.fill.new.self) ≤ length net.places = count_by-le-length (leads_on (value_of c.fill.new.self)) net.places in
    let bare : length (held c.new-heap.result) ≡ 0 = ap length c.new-heap.ensures.none in
    omega arith

pub loop-next-init : goal.loop-next-init
loop-next-init g c =
    let z : c.fill.new.self ≡ replicate (length c.args.records.now) blank = search rules in
    let none = cleared c.fill.new.self _ z in
    let long = value_long c.fill.new.self in
    let nodes = (g.N.Network.limits c.args.self.now.network.now).few_nodes in (
      searching_start _ g.met.M.Measure.lawful _ _ c.args.self.now.fitting (g.N.Network.limits c.args.self.now.network.now) c.args.t (values_in c.fill.new.self) c.new-heap.result c.settle.new.heap
          (λ u. ap (λ d. d u) (sym (value_list c.fill.new.self)) ∙ ap (λ r. r.value) (none u)) (omega arith) (omega arith) c.new-heap.ensures.none (omega arith) c.starting.result c.starting.ensures _ c.settle.ensures.settled
          (offering_list c.settle.new.records _ _ _ _ _ _ 0 c.settle.ensures.offered),
      c.settle.ensures.unreached (λ u. (ap (λ r. r.steps) (none u), ap (λ r. r.next) (none u))),
    )

-- the node of the entry that was taken is a node
pub settle-requires-then-is_none-clause-inside : goal.settle-requires-then-is_none-clause-inside
settle-requires-then-is_none-clause-inside g c =
    let told = c.in-Some.ensures in
    let inside = popped_inside _ g.met.M.Measure.lawful _ _ c.args.self.now.fitting (g.N.Network.limits c.args.self.now.network.now) c.args.t (values_in c.loop-next.records) c.loop-next.heap c.pop.new.self
    c.loop-next.invariant.0 c.in-Some.next told.entries told.order told.first told.slots in
    let long = value_long c.loop-next.records in
    omega arith

pub settle-requires-then-is_none-clause-room : goal.settle-requires-then-is_none-clause-room
settle-requires-then-is_none-clause-room g c =
    let told = c.in-Some.ensures in
    let inv = c.loop-next.invariant.0 in
    let shorter = length_permutation _ _ told.entries in
    let same = ap (links_open (g.N.Network.meaning c.args.self.now.network.now)) (value_list c.loop-next.records) in
    omega (arith, told.slots)

pub loop-next-smaller-then-is_none : goal.loop-next-smaller-then-is_none
loop-next-smaller-then-is_none g c =
    let told = c.in-Some.ensures in
    let less = settle_less _ g.met.M.Measure.lawful _ _ c.args.self.now.fitting (g.N.Network.limits c.args.self.now.network.now) c.args.t (values_in c.loop-next.records) c.loop-next.heap c.pop.new.self
    c.loop-next.invariant.0 c.in-Some.next told.entries told.order told.first told.slots c.settle-then-is_none.new.heap
    (value_unset c.loop-next.records _ _ c.record_at.ensures c.if-is_none.ensures) _ c.settle-then-is_none.ensures.settled
    (offering_list c.settle-then-is_none.new.records _ _ _ _ _ _ 0 c.settle-then-is_none.ensures.offered) in
    let before = ap (links_open (g.N.Network.meaning c.args.self.now.network.now)) (value_list c.loop-next.records) in
    let after = ap (links_open (g.N.Network.meaning c.args.self.now.network.now)) (value_list c.settle-then-is_none.new.records) in
    omega arith

pub loop-next-preserved-then-is_none : goal.loop-next-preserved-then-is_none
loop-next-preserved-then-is_none g c =
    let told = c.in-Some.ensures in (
      searching_settle _ g.met.M.Measure.lawful _ _ c.args.self.now.fitting (g.N.Network.limits c.args.self.now.network.now) c.args.t (values_in c.loop-next.records) c.loop-next.heap c.pop.new.self
          c.loop-next.invariant.0 c.in-Some.next told.entries told.order told.first told.slots c.settle-then-is_none.new.heap
          (value_unset c.loop-next.records _ _ c.record_at.ensures c.if-is_none.ensures) _ c.settle-then-is_none.ensures.settled
          (offering_list c.settle-then-is_none.new.records _ _ _ _ _ _ 0 c.settle-then-is_none.ensures.offered),
      c.settle-then-is_none.ensures.unreached c.loop-next.invariant.1,
    )

pub loop-next-smaller : goal.loop-next-smaller
loop-next-smaller g c = let told = c.in-Some.ensures in omega (arith, length_permutation _ _ told.entries)

pub loop-next-preserved : goal.loop-next-preserved
loop-next-preserved g c =
    let told = c.in-Some.ensures in
    let (a, e) = value_there c.loop-next.records _ _ c.record_at.ensures c.if-is_none.ensures in (
      searching_skip _ g.met.M.Measure.lawful _ _ c.args.self.now.fitting (g.N.Network.limits c.args.self.now.network.now) c.args.t (values_in c.loop-next.records) c.loop-next.heap c.pop.new.self
          c.loop-next.invariant.0 c.in-Some.next told.entries told.order told.first told.slots a e,
      c.loop-next.invariant.1,
    )

pub returns-clause-labels : goal.returns-clause-labels
returns-clause-labels g c =
    subst (Labels _ _ _) (sym (value_list c.loop-next.records))
    (searching_end _ g.met.M.Measure.lawful _ _ c.args.self.now.fitting (g.N.Network.limits c.args.self.now.network.now) c.args.t (values_in c.loop-next.records) c.loop-next.heap
    c.loop-next.invariant.0 c.in_default.ensures.entries.0)
