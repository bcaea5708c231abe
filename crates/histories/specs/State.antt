-- What a planner holds.
use Rattle.std.specs.Prelude.{◌≡◌, ℕ, ◌<◌, Bool, false, List, Some, None, Option, slice_index_or, slice_set}
use Rattle.definitions.specs.Networks.{Net, without}
use Rattle.definitions.specs.Measures.{Scale}
use Rattle.definitions.specs.Plans.{worst}
use Rattle.frontier.specs.declared.record.NodeRecord.{NodeRecord}
use Rattle.routes.specs.Records.{Recorded}

pub record State : Type 0 where
  pub net : Net  -- the network that it was opened over
  pub marks : List Bool  -- which of its places are withdrawn
  pub standing : Option ℕ  -- the destination of the plan that stands
  pub records : List NodeRecord  -- what the plan found for each node

-- the places that a list of marks marks
abbrev pub marked : List Bool → ℕ → Bool
marked marks k = slice_index_or marks k false

-- the network without the withdrawn links
abbrev pub in_service : State → Net
in_service s = without (marked s.marks) s.net

abbrev pub Stands : State → ℕ → Type 0
Stands s t = s.standing ≡ Some t

-- the mark of place k is now b, and no plan stands
abbrev pub remarked : State → ℕ → Bool → State
remarked s k b = record { net = s.net; marks = slice_set s.marks k b; standing = None; records = s.records }

-- a planner just opened over n
pub record Opened (n : Net) (s : State) : Type 0 where
  pub net : s.net ≡ n
  pub in_service : (k : ℕ) → marked s.marks k ≡ false
  pub no_plan : s.standing ≡ None

-- The records of a plan that stands are right: its destination is a node, and each node has its guarantee, its steps and
-- its next link. Where no plan stands they may hold anything.
abbrev pub PlanRight : Scale → Net → Option ℕ → List NodeRecord → Type 0
PlanRight m net None rs = Unit {0}
PlanRight m net (Some t) rs = (t < net.nodes) × Recorded (worst m net t) net t rs

-- What a planner holds is right.
abbrev pub Right : Scale → State → Type 0
Right m s = PlanRight m (in_service s) s.standing s.records
