use Rattle.std.proofs.Common.{◌∷◌, take, set, subst, arith, length-set}
use Rattle.std.specs.List.Sorted.{IsPermutation}
use Rattle.heap.specs.Heaps.{Heaped}
use Rattle.heap.proofs.Parts.{front, push_entries, push_order}
use Rattle.heap.proofs.Heap.append.Goals as goal

pub returns-clause-entries : goal.returns-clause-entries
returns-clause-entries g c =
    let xs = c.args.self.now.entries.now in
    let n = c.args.self.now.len in
    let s = c.lift_last.ensures.shuffled in
    let is = front (set xs n c.args.entry) _ _ _ (simp length-set (omega arith)) s in
    subst (IsPermutation (c.args.entry ∷ take n xs)) is (push_entries xs _ n c.args.entry c.requires s)

pub returns-clause-order : goal.returns-clause-order
returns-clause-order g c =
    let xs = c.args.self.now.entries.now in
    let n = c.args.self.now.len in
    let is = front (set xs n c.args.entry) _ _ _ (simp length-set (omega arith)) c.lift_last.ensures.shuffled in
    λ h. subst (Heaped g.O.Order.before) is (push_order _ xs _ n c.args.entry c.requires c.lift_last.ensures.order h)
