use Rattle.std.proofs.Common.{Err, ap, ◌∙◌, arith}
use Rattle.std.proofs.lemmas.Result.{err_from_is_err_and}
use Rattle.networks.specs.Drafts.{answered}
use Rattle.maps.specs.Maps.{link_count}
use Rattle.maps.specs.Checks.{link_fault}
use Rattle.networks.proofs.Tables.{answered_err}
use Rattle.maps.proofs.Firsts.{first_at}
use Rattle.maps.proofs.map.Framed.check_links.Goals as goal

pub returns-in_err-check_link : goal.returns-in_err-check_link
returns-in_err-check_link c =
    let bs = c.args.self.now.bytes.now in
    let p = err_from_is_err_and c.from_residual.result c.from_residual.ensures.1 in
    let here = answered_err (link_fault bs c.loop-k.k) _ c.in_err-check_link.ensures in
    p.1 ∙ ap Err p.2 ∙ ap answered (first_at _ c.loop-k.k (link_count bs) _ _ (omega arith) c.loop-k.invariant here)
