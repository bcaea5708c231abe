-- What a planner's call answers to a command, and its bytes.
use Rattle.std.specs.Prelude.{ℕ, List, [], ◌++◌, take, Ok, Err, Result}
use Rattle.std.specs.List.{flat_map}
use Rattle.console.specs.Commands.{field}
use Rattle.histories.specs.declared.fault.PlannerFault.{PlannerFault}
use Rattle.console.specs.declared.print.Answer.{Answer}
use Rattle.console.specs.declared.print.Answer.TheVariants.{Done, Count, Value, Places, Traced}

-- An answer whose places are counted.
abbrev pub Outcome : Type 0
Outcome = Answer ℕ

-- The answer of a planner's call as an outcome; a refusal stays as it is.
abbrev pub mapped : {A : Type 0} → (A → Outcome) → Result A PlannerFault → Result Outcome PlannerFault
mapped f (Ok x) = Ok (f x)
mapped f (Err e) = Err e

abbrev pub pair_traced : (ℕ × ℕ) → Outcome
pair_traced p = Traced p.0 p.1

-- The bytes that follow the command: places are the first entries of the buffer.
abbrev pub shown : Outcome → List ℕ → List ℕ
shown Done buffer = []
shown (Count n) buffer = field n
shown (Value v) buffer = field v
shown (Places n) buffer = flat_map field (take n buffer)
shown (Traced v n) buffer = field v ++ flat_map field (take n buffer)
