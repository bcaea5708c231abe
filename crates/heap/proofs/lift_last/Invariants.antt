use Rattle.std.proofs.Common.{◌≡◌, ◌<◌, length}
use Rattle.std.specs.List.Sorted.{IsPermutation}
use Rattle.heap.specs.Heaps.{HeapedButLast}
use Rattle.heap.proofs.Sifts.{Lifting}
use Rattle.heap.proofs.lift_last.Given as goal

abbrev pub invariant-loop-child : goal.invariant-loop-child
invariant-loop-child g l =
    (0 < l.child → l.child < length l.entries)
    × (length l.entries ≡ length l.initial.entries)
    × IsPermutation l.initial.entries l.entries
    × (HeapedButLast g.O.Order.before l.initial.entries → Lifting g.O.Order.before l.entries l.child)

abbrev pub decreases-loop-child : goal.decreases-loop-child
decreases-loop-child g l = l.child
