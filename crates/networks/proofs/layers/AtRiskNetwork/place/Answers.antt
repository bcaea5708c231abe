use Rattle.std.proofs.Common.{sym, ◌∙◌, ap₂}
use Rattle.definitions.specs.Networks.{share_group}
use Rattle.definitions.proofs.Layers.{risk_same, risk_shared, risk_apart}
use Rattle.networks.proofs.layers.AtRiskNetwork.place.Goals as goal

pub returns-then-k-self : goal.returns-then-k-self
returns-then-k-self g c = sym (risk_same (g.N.Network.meaning c.args.self.now.network) c.args.self.now.link c.args.k c.if-k-self.true)

pub returns-then-shares_group : goal.returns-then-shares_group
returns-then-shares_group g c =
    sym (risk_shared (g.N.Network.meaning c.args.self.now.network) c.args.self.now.link c.args.k
    (sym (ap₂ share_group c.place-there.ensures c.place.ensures) ∙ sym c.if-shares_group.ensures))

pub returns : goal.returns
returns g c =
    c.place-there.ensures ∙ sym (risk_apart (g.N.Network.meaning c.args.self.now.network) c.args.self.now.link c.args.k c.if-k-self.false
    (sym (ap₂ share_group c.place-there.ensures c.place.ensures) ∙ sym c.if-shares_group.ensures))
