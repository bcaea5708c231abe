use Rattle.definitions.proofs.Mains.{guarantee_exists}
use Rattle.definitions.proofs.theorems.guarantee_exists.Goals as goal

pub returns : goal.returns
returns c = guarantee_exists
