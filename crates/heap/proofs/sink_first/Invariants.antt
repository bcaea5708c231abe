use Rattle.std.proofs.Common.{◌≡◌, ◌-◌, length}
use Rattle.std.specs.List.Sorted.{IsPermutation}
use Rattle.heap.specs.Heaps.{HeapedButFirst}
use Rattle.heap.proofs.Sifts.{Sinking}
use Rattle.heap.proofs.sink_first.Given as goal

abbrev pub invariant-loop-child : goal.invariant-loop-child
invariant-loop-child g l =
    (length l.entries ≡ length l.initial.entries)
    × IsPermutation l.initial.entries l.entries
    × (HeapedButFirst g.O.Order.before l.initial.entries → Sinking g.O.Order.before l.entries l.parent)

abbrev pub decreases-loop-child : goal.decreases-loop-child
decreases-loop-child g l = length l.initial.entries - l.parent
