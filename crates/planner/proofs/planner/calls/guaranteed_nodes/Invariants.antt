use Rattle.std.proofs.Common.{◌≡◌, ◌≤◌, take}
use Rattle.planner.specs.Tally.{tallied}
use Rattle.planner.proofs.planner.calls.guaranteed_nodes.Given as goal

abbrev pub invariant-loop-record : goal.invariant-loop-record
invariant-loop-record l = (l.count ≡ tallied (take l.record-index l.records)) × (l.count ≤ l.record-index)
