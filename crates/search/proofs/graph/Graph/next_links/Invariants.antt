use Rattle.std.proofs.Common.{◌≡◌, ◌+◌, length}
use Rattle.definitions.specs.Networks.{place}
use Rattle.definitions.specs.Searches.{given as valued}
use Rattle.heap.specs.Holds.{held}
use Rattle.frontier.specs.Progress.{links_open, Walking}
use Rattle.frontier.specs.Records.{steps_of, values_in, steps_in, nexts_in}
use Rattle.search.proofs.graph.Graph.next_links.Given as goal

abbrev pub invariant-loop-hop : goal.invariant-loop-hop
invariant-loop-hop g l = Walking (valued g.M.Measure.scale (place l.self.recoveries.now)) (g.N.Network.meaning l.self.network.now) l.t (steps_in l.records) (nexts_in l.records) l.heap × (values_in l.records ≡ values_in l.fn.records)

abbrev pub decreases-loop-hop : goal.decreases-loop-hop
decreases-loop-hop g l = length (held l.heap) + links_open (g.N.Network.meaning l.self.network.now) (steps_of l.records)
