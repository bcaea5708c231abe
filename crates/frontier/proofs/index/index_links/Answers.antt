use Rattle.std.proofs.Common.{arith}
use Rattle.std.proofs.lemmas.Grind.{common_steps}
use Rattle.frontier.proofs.Indexing.{index_start, index_end}
use Rattle.frontier.proofs.Stored.{place_cleared}
use Rattle.frontier.proofs.index.index_links.Goals as goal

pub loop-k-init : goal.loop-k-init
loop-k-init g c = index_start (g.N.Network.meaning c.args.network.now) _ _ (λ u. grind (arith, common_steps, place_cleared)) (λ u. grind (arith, common_steps, place_cleared))

pub returns : goal.returns
returns g c = index_end (g.N.Network.meaning c.args.network.now) _ _ c.loop-k.k (omega arith) c.loop-k.invariant
