use Rattle.definitions.proofs.Mains.{held_route_exists}
use Rattle.definitions.proofs.theorems.held_route_exists.Goals as goal

pub returns : goal.returns
returns c = held_route_exists
