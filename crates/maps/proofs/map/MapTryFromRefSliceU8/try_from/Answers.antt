use Rattle.std.proofs.Common.{◌≡◌, None, sym, arith, rules}
use Rattle.networks.proofs.Tables.{answered_ok}
use Rattle.maps.specs.Maps.{link_count}
use Rattle.maps.specs.Checks.{link_fault, first}
use Rattle.maps.proofs.Firsts.{well_formed}
use Rattle.maps.proofs.map.MapTryFromRefSliceU8.try_from.Goals as goal

-- Bytes without a fault are well formed.
pub invariant_of-result : goal.invariant_of-result
invariant_of-result c =
    let bs = c.in_ok-framed.framed.bytes.now in
    let same : bs ≡ c.args.bytes.now = search rules in
    let links : first (link_fault bs) 0 (link_count bs) ≡ None = sym (answered_ok _ _ c.in_ok-check_links.ensures) in
    record { sound = well_formed bs (λ i. rw same (omega (arith, (c.type_inv.bytes i).fits))) links }
