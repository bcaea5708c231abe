use Rattle.definitions.proofs.Mains.{nexts_are_right}
use Rattle.definitions.proofs.theorems.nexts_are_right.Goals as goal

pub returns : goal.returns
returns c = nexts_are_right
