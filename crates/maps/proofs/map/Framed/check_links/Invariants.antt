use Rattle.std.proofs.Common.{◌≡◌, ◌-◌}
use Rattle.maps.specs.Maps.{link_count}
use Rattle.maps.specs.Checks.{first, link_fault}
use Rattle.maps.proofs.map.Framed.check_links.Given as goal

-- The links that are left give the answer.
abbrev pub invariant-loop-k : goal.invariant-loop-k
invariant-loop-k l =
    let bs = l.self.bytes.now in
    first (link_fault bs) l.k (link_count bs - l.k) ≡ first (link_fault bs) 0 (link_count bs)
