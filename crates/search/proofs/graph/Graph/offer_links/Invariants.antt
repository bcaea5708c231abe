use Rattle.std.proofs.Common.{ℕ, List}
use Rattle.frontier.specs.Progress.{above, Along}
use Rattle.search.specs.Offering.{HaveOffered}
use Rattle.search.proofs.graph.Graph.offer_links.Given as goal

abbrev pub invariant-loop-k : goal.invariant-loop-k
invariant-loop-k g l =
    (goal.iterator-loop-k g).can_next l.k-iterator
    × (goal.iterator-loop-k g).is_finite l.k-iterator
    × ∥ Along (g.N.Network.meaning l.self.network.now) l.node l.k-iterator ∥₁
    × ((ks : List ℕ) × HaveOffered g.O.Order.before (g.N.Network.meaning l.self.network.now) l.node (goal.F-post g l.offer) l.initial.heap ks (above l.k-iterator.cursor) l.heap)
