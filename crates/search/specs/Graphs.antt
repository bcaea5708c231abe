-- What a graph stands for.
use Rattle.definitions.specs.Networks.{Net, place}
use Rattle.definitions.specs.Routes.{Valuation}
use Rattle.definitions.specs.Searches.{given}
use Rattle.networks.specs.declared.network.Network.{Ghosts as NetworkGhosts}
use Rattle.measures.specs.declared.Measure.{Ghosts as MeasureGhosts}
use Rattle.search.specs.declared.graph.Graph.{Graph}

module _ {N M : Type 0} {n : NetworkGhosts N} {m : MeasureGhosts M} where
  -- its network
  abbrev pub net_of : Graph N M n m → Net
  net_of g = n.meaning g.network.now

  -- values by the recovery values of its links
  abbrev pub valuation_of : Graph N M n m → Valuation
  valuation_of g = given m.scale (place g.recoveries.now)
