use Rattle.definitions.proofs.Mains.{trace_is_guaranteed}
use Rattle.definitions.proofs.theorems.trace_is_guaranteed.Goals as goal

pub returns : goal.returns
returns c = trace_is_guaranteed
