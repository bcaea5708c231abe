use Rattle.definitions.proofs.Mains.{recovery_exists}
use Rattle.definitions.proofs.theorems.recovery_exists.Goals as goal

pub returns : goal.returns
returns c = recovery_exists
