use Rattle.std.proofs.Common.{◌≡◌, ◌*◌, take}
use lib.Seq.{paste}
use Rattle.maps.specs.Writes.{entries}
use Rattle.maps.proofs.writing.write_column.Given as goal

-- The entries of the places so far are written, one behind the other.
abbrev pub invariant-loop-k : goal.invariant-loop-k
invariant-loop-k g l = l.out ≡ paste l.initial.out l.start (entries g.C.Column.entry (take l.k (g.N.Network.meaning l.network).places)) (g.row.W * l.k)
