use Rattle.std.proofs.Common.{◌≡◌, ℕ, ◌-◌, ◌<◌, ◌≤◌, List, ◌++◌, length}
use Rattle.routes.specs.Records.{Leads, next_of}
use Rattle.routes.specs.Walks.{Spared}
use Rattle.routes.proofs.walk.Walk.turning_point.Given as goal

-- the way so far, and the way that is left
abbrev pub invariant-loop-at : goal.invariant-loop-at
invariant-loop-at g l =
    (l.initial.at < (g.N.Network.meaning l.self.network).nodes → l.at < (g.N.Network.meaning l.self.network).nodes) × (l.passed ≤ length l.self.records.now) ×
    ((ks : List ℕ) → Leads (g.N.Network.meaning l.self.network) (next_of l.self.records.now) l.destination l.initial.at ks → length ks < length l.self.records.now →
    (js : List ℕ) × (is : List ℕ) × (js ++ is ≡ ks) × Leads (g.N.Network.meaning l.self.network) (next_of l.self.records.now) l.at l.initial.at js ×
    Leads (g.N.Network.meaning l.self.network) (next_of l.self.records.now) l.destination l.at is × (length js ≡ l.passed) × Spared (g.N.Network.meaning l.self.network) l.failure js)

abbrev pub decreases-loop-at : goal.decreases-loop-at
decreases-loop-at g l = length l.self.records.now - l.passed
