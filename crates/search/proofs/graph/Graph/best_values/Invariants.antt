use Rattle.std.proofs.Common.{◌+◌, length}
use Rattle.definitions.specs.Networks.{place}
use Rattle.heap.specs.Holds.{held}
use Rattle.frontier.specs.Progress.{Searching, links_open}
use Rattle.frontier.specs.Records.{value_of, values_in, Unreached}
use Rattle.search.proofs.graph.Graph.best_values.Given as goal

abbrev pub invariant-loop-next : goal.invariant-loop-next
invariant-loop-next g l = Searching g.M.Measure.scale (place l.self.recoveries.now) (g.N.Network.meaning l.self.network.now) l.t (values_in l.records) l.heap × Unreached l.records

abbrev pub decreases-loop-next : goal.decreases-loop-next
decreases-loop-next g l = length (held l.heap) + links_open (g.N.Network.meaning l.self.network.now) (value_of l.records)
