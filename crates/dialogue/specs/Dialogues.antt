-- One line of a dialogue with a planner.
use Rattle.std.specs.Prelude.{◌≡◌, ℕ, ◌+◌, ◌-◌, ◌^◌, min, List, [], ◌∷◌, ◌++◌, length, Ok, Err, Result}
use Rattle.console.specs.declared.command.Command.{Command}
use Rattle.console.specs.declared.command.LineFault.{LineFault}
use Rattle.console.specs.Answers.{refusal_line}
use Rattle.console.specs.Commands.{printed}
use Rattle.console.specs.Grammar.{reading}
use Rattle.definitions.specs.Measures.{Scale}
use Rattle.histories.specs.declared.fault.PlannerFault.{PlannerFault}
use Rattle.histories.specs.State.{State}
use Rattle.dialogue.specs.declared.fault.Cause.{Cause}
use Rattle.dialogue.specs.declared.fault.Cause.TheVariants.{Line, Planner}
use Rattle.dialogue.specs.Commands.{Carried}
use Rattle.dialogue.specs.Faults.{cause_code}
use Rattle.dialogue.specs.Outcomes.{Outcome, shown}

abbrev pub with_command : Command → Result Outcome PlannerFault → Result (Command × Outcome) Cause
with_command c (Ok o) = Ok (c, o)
with_command c (Err f) = Err (Planner f)

-- A line that gives no command changes nothing; otherwise the planner carries the command out.
abbrev pub Tried : Scale → State → Result Command LineFault → Result (Command × Outcome) Cause → State → List ℕ → List ℕ → Type 0
Tried m s (Err f) r s' buffer filled = (r ≡ Err (Line f)) × (s' ≡ s)
Tried m s (Ok c) r s' buffer filled = (q : Result Outcome PlannerFault) × (r ≡ with_command c q) × Carried m s c q s' buffer filled

-- The line that is printed: the command with its answer, or the refusal of line n.
abbrev pub reply : ℕ → Result (Command × Outcome) Cause → List ℕ → List ℕ
reply n (Ok (c, o)) buffer = printed c ++ (shown o buffer ++ (10 ∷ []))
reply n (Err cause) buffer = refusal_line n (cause_code cause)

-- Lines are counted from 1, up to the largest number of 64 bits.
abbrev pub next_number : ℕ → ℕ
next_number n = min (n + 1) (2 ^ 64 - 1)

-- Line n is answered by a planner that goes from s to s'; places stand in a buffer of 512 entries.
pub record LineAnswer (m : Scale) (n : ℕ) (s : State) (line : List ℕ) (s' : State) (said : List ℕ) : Type 0 where
  pub result : Result (Command × Outcome) Cause
  pub buffer : List ℕ
  pub filled : List ℕ
  pub room : length buffer ≡ 512
  pub tried : Tried m s (reading line) result s' buffer filled
  pub bytes : said ≡ reply n result filled
