use Rattle.std.proofs.Common.{◌≡◌, fold, reverse, ◌∙◌, rules}
use Rattle.definitions.specs.Networks.{place}
use Rattle.routes.specs.Walks.{extended}
use Rattle.routes.proofs.Walking.{plain_folded}
use Rattle.routes.proofs.walk.plain_value.Goals as goal

pub returns : goal.returns
returns g c =
    let m = g.M.Measure.scale in
    let net = g.N.Network.meaning c.args.network.now in
    let e : c.fold.result ≡ fold (λ v k. extended m (place net.places k) v) m.start (reverse c.args.places.now) = search rules in
    e ∙ plain_folded m net c.args.places.now
