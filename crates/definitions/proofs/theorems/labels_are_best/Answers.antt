use Rattle.definitions.proofs.Mains.{labels_are_best}
use Rattle.definitions.proofs.theorems.labels_are_best.Goals as goal

pub returns : goal.returns
returns c = labels_are_best
