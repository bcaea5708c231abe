use Rattle.definitions.proofs.Mains.{backup_exists}
use Rattle.definitions.proofs.theorems.backup_exists.Goals as goal

pub returns : goal.returns
returns c = backup_exists
