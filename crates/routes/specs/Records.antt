-- What the records of the nodes say, as a search leaves them.
use Rattle.std.specs.Prelude.{◌≡◌, ℕ, ◌<◌, ◌≤◌, List, [], ◌∷◌, length, Some, Err, Option, Result, OnOk, OnErr, ◌≢◌}
use Rattle.definitions.specs.declared.Link.{Link}
use Rattle.definitions.specs.Networks.{Net, Holds}
use Rattle.definitions.specs.Routes.{Valuation}
use Rattle.definitions.specs.Searches.{Labels, Nexts}
use Rattle.frontier.specs.declared.record.NodeRecord.{NodeRecord}
pub use Rattle.frontier.specs.Records.{blank, value_of, steps_of, next_of}
use Rattle.routes.specs.declared.fault.SearchFault.{SearchFault}
use Rattle.routes.specs.declared.fault.SearchFault.TheVariants.{RecordCount, NoDestination}

-- The records have the best value, the steps and the next link of every node.
pub record Recorded (ρ : Valuation) (net : Net) (t : ℕ) (rs : List NodeRecord) : Type 0 where
  pub labels : Labels ρ net t (value_of rs)
  pub links : Nexts ρ net t (steps_of rs) (next_of rs)

-- What a search with the destination t answers. Of 256 records, where t is a node, it fills each by its valuation. It
-- refuses where there are not 256 records, and else where t is no node, and the records are then as before.
pub record SearchAnswer (ρ : Valuation) (net : Net) (t : ℕ) (rs : List NodeRecord) (r : Result Unit SearchFault) (rs' : List NodeRecord) : Type 0 where
  pub found : OnOk r ((t < net.nodes) × (length rs ≡ 256) × Recorded ρ net t rs')
  pub count : r ≡ Err RecordCount → length rs ≢ 256
  pub destination : r ≡ Err NoDestination → (length rs ≡ 256) × (net.nodes ≤ t)
  pub refused : OnErr r (rs' ≡ rs)

-- The places lead from u to e along the next links nx.
abbrev pub Leads : Net → (ℕ → Option ℕ) → ℕ → ℕ → List ℕ → Type 0
Leads net nx e u [] = u ≡ e
Leads net nx e u (k ∷ ks) = (l : Link) × (nx u ≡ Some k) × Holds net k l × Leads net nx e l.head ks
