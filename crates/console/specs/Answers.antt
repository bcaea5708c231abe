-- The bytes of answers and refusals.
use Rattle.std.specs.Prelude.{ℕ, List, [], ◌∷◌, ◌++◌, codes}
use Rattle.std.specs.Borrow.{Bor}
use Rattle.std.specs.List.{flat_map}
use Rattle.definitions.specs.declared.FaultCode.{FaultCode}
use Rattle.console.specs.declared.command.Command.{Command}
use Rattle.console.specs.declared.print.Answer.{Answer}
use Rattle.console.specs.declared.print.Answer.TheVariants.{Done, Count, Value, Places, Traced}
use Rattle.console.specs.Commands.{field, printed}

-- What follows the command on its line.
abbrev pub answered : Answer (Bor (List ℕ)) → List ℕ
answered Done = []
answered (Count n) = field n
answered (Value v) = field v
answered (Places ks) = flat_map field ks.now
answered (Traced v ks) = field v ++ flat_map field ks.now

-- The command printed back with its answer.
abbrev pub answer_line : Command → Answer (Bor (List ℕ)) → List ℕ
answer_line c a = printed c ++ (answered a ++ (10 ∷ []))

-- E, the line number, then layer, number and place of the fault.
abbrev pub refusal_line : ℕ → FaultCode → List ℕ
refusal_line line fault = codes "E" ++ (field line ++ (field fault.layer ++ (field fault.number ++ (field fault.place ++ (10 ∷ [])))))
