use Rattle.std.proofs.Common.{sym, ◌∙◌}
use Rattle.definitions.proofs.Layers.{length_emptied}
use Rattle.networks.proofs.layers.AtRiskNetwork.place_count.Goals as goal

pub returns : goal.returns
returns g c = c.place_count.ensures ∙ sym (length_emptied _ _)
