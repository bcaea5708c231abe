use Rattle.std.proofs.Common.{arith}
use Rattle.maps.proofs.Rewrites.{rewritten_from}
use Rattle.maps.proofs.writing.rewrite.Goals as goal

pub returns : goal.returns
returns c =
    let opened = c.in_ok-map.ensures in
    rewritten_from c.args.bytes.now c.args.out.now c.write.new.out _ c.write.result (λ i. omega (arith, (c.type_inv.bytes i).fits)) opened.0 opened.1 c.write.ensures.value c.write.ensures.bytes
