use Rattle.example_table.proofs.Lines.{all_lines}
use Rattle.example_table.proofs.example_table_holds.Goals as goal

pub returns : goal.returns
returns c = all_lines
