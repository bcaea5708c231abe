use Rattle.std.proofs.Common.{◌≡◌, length, drop, Ok, sym, ◌∙◌, arith}
use Rattle.maps.specs.Writes.{writable}
use Rattle.maps.proofs.Pastes.{all_written}
use Rattle.maps.proofs.Rounds.{writable_ok, reads_back}
use Rattle.maps.proofs.writing.write.Goals as goal

pub returns : goal.returns
returns g c =
    let n = g.N.Network.meaning c.args.network.now in
    let room = length c.args.out.now in
    let len = c.in_ok-len.len in
    let ok : Ok len ≡ writable n room = sym c.in_ok-len.was ∙ c.writable_len.ensures in
    let bytes = all_written n c.args.out.now _ _ _ _ _ len c.sizes.ensures c.put.ensures c.write_column.ensures c.write_column-2.ensures (omega arith) (writable_ok n room len ok).2 in
    record {
      value = ok;
      bytes = bytes;
      byte = tt;
      back = reads_back n _ (drop len c.args.out.now) room len (g.N.Network.limits c.args.network.now) ok bytes;
    }
