use Rattle.std.proofs.Common.{arith}
use Rattle.maps.proofs.Empties.{never_empty}
use Rattle.maps.proofs.Pastes.{paste_entry}
use Rattle.maps.proofs.writing.write_column.Goals as goal
use Rattle.maps.proofs.writing.write_column.Goals.{in-Some, in_default}

pub loop-k-preserved : goal.loop-k-preserved
loop-k-preserved g c =
    let ps = (g.N.Network.meaning c.args.network.now).places in
    elim c.match-place.branch [
      | in-Some w ↦ paste_entry g.C.Column.entry g.row.W g.met.C.Column.long ps c.args.out.now c.loop-k.out _ c.match-place.out _ c.args.start c.loop-k.k _ (omega arith) (omega arith) c.loop-k.invariant w.in-Some.ensures w.entry.ensures w.put.ensures w.out-is
      | in_default w ↦ never_empty ps c.loop-k.k c.requires.full (omega arith) w.in_default.ensures
    ]
