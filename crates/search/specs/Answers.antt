-- What the searches find, in terms of routes and their values.
use Rattle.std.specs.Prelude.{◌≡◌, ℕ, ◌<◌, List, None, Option}
use Rattle.definitions.specs.declared.Link.{Link}
use Rattle.definitions.specs.Networks.{Net, Holds, place, at_risk}
use Rattle.definitions.specs.Measures.{Scale}
use Rattle.definitions.specs.Routes.{BestIs}
use Rattle.definitions.specs.Plans.{plain, worst}
use Rattle.definitions.specs.Searches.{Labels, Nexts}
use Rattle.frontier.specs.Hops.{NoNext}
use Rattle.frontier.specs.declared.record.NodeRecord.{NodeRecord}
use Rattle.frontier.specs.Records.{value_of, steps_of, next_of, Unreached}

-- t is a node, and the records have the best plain value of every node to t, nothing for a node without a route. No node has
-- steps or a next link.
pub record PlainValues (m : Scale) (net : Net) (t : ℕ) (rs : List NodeRecord) : Type 0 where
  pub inside : t < net.nodes
  pub best : (u : ℕ) → BestIs (plain m) net t u (value_of rs u)
  pub labels : Labels (plain m) net t (value_of rs)
  pub unreached : Unreached rs

-- t is a node, and the records have the best plain value of every node to t, and the steps and next links by
-- plain values.
pub record PlainTables (m : Scale) (net : Net) (t : ℕ) (rs : List NodeRecord) : Type 0 where
  pub inside : t < net.nodes
  pub best : (u : ℕ) → BestIs (plain m) net t u (value_of rs u)
  pub labels : Labels (plain m) net t (value_of rs)
  pub nexts : Nexts (plain m) net t (steps_of rs) (next_of rs)
  pub idle : NoNext t (steps_of rs) (next_of rs)

-- t is a node, and each link has its recovery value: the best plain value from its tail to t in the layer at risk with it, or
-- nothing where it is not backed up. A place without a link has nothing.
pub record Recovered (m : Scale) (net : Net) (t : ℕ) (r : ℕ → Option ℕ) : Type 0 where
  pub inside : t < net.nodes
  pub of_link : (k : ℕ) (l : Link) → Holds net k l → BestIs (plain m) (at_risk k net) t l.tail (r k)
  pub of_empty : (k : ℕ) → place net.places k ≡ None → r k ≡ None

-- The records have the guarantee of every node to t, and the steps and next links by worst values; the list has the recovery
-- value of every link.
pub record WorstTables (m : Scale) (net : Net) (t : ℕ) (recoveries : List (Option ℕ)) (rs : List NodeRecord) : Type 0 where
  pub recovered : Recovered m net t (place recoveries)
  pub guarantee : (u : ℕ) → BestIs (worst m net t) net t u (value_of rs u)
  pub labels : Labels (worst m net t) net t (value_of rs)
  pub nexts : Nexts (worst m net t) net t (steps_of rs) (next_of rs)
  pub idle : NoNext t (steps_of rs) (next_of rs)
