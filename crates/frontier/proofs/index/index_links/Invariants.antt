use Rattle.frontier.specs.Progress.{Indexing}
use Rattle.frontier.proofs.index.index_links.Given as goal

abbrev pub invariant-loop-k : goal.invariant-loop-k
invariant-loop-k g l = Indexing (g.N.Network.meaning l.network) l.index l.k
