use Rattle.std.proofs.Common.{sym, ap, ◌∙◌}
use Rattle.console.specs.Grammar.{reading}
use Rattle.console.proofs.Reading.{reads_back, first_bytes}
use Rattle.console.proofs.Spelling.{spells}
use Rattle.console.proofs.parse.parse.Goals as goal

pub returns : goal.returns
returns c =
    let value = c.read_command.ensures in
    record {
      value = value;
      accepted = λ k e. spells c.args.line.now k (sym value ∙ e);
      printed = λ k small e. value ∙ ap reading e ∙ reads_back k small;
      kept = first_bytes c.args.line.now ∙ sym value;
    }
