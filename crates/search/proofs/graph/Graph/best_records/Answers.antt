use Rattle.std.proofs.Common.{sym, subst}
use Rattle.definitions.specs.Searches.{Labels}
use Rattle.search.proofs.Columns.{same_values}
use Rattle.search.proofs.graph.Graph.best_records.Goals as goal

-- The search for next links leaves the values as they are.
pub returns-clause-labels : goal.returns-clause-labels
returns-clause-labels g c = subst (Labels _ _ _) (sym (same_values c.next_links.new.records c.best_values.new.records c.next_links.ensures.values)) c.best_values.ensures.labels
