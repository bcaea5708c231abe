use Rattle.std.proofs.Common.{◌≡◌, true, false, get_or, sym, ◌∙◌, rules}
use Rattle.std.proofs.lemmas.Bool.{cond-true, cond-false}
use Rattle.definitions.proofs.Layers.{place_emptied}
use Rattle.networks.proofs.layers.WithdrawnNetwork.place.Goals as goal

pub returns-then-unwrap_or : goal.returns-then-unwrap_or
returns-then-unwrap_or g c =
    let marks = c.args.self.now.marks.now in
    let gone : get_or marks c.args.k false ≡ true = search rules in
    sym (place_emptied (λ j. get_or marks j false) (g.N.Network.meaning c.args.self.now.network.now).places c.args.k ∙ cond-true _ _ _ gone)

pub returns : goal.returns
returns g c =
    let marks = c.args.self.now.marks.now in
    let stays : get_or marks c.args.k false ≡ false = search rules in
    c.place.ensures ∙ sym (place_emptied (λ j. get_or marks j false) (g.N.Network.meaning c.args.self.now.network.now).places c.args.k ∙ cond-false _ _ _ stays)
