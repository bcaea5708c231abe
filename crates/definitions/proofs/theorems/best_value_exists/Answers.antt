use Rattle.definitions.proofs.Mains.{best_value_exists}
use Rattle.definitions.proofs.theorems.best_value_exists.Goals as goal

pub returns : goal.returns
returns c = best_value_exists
