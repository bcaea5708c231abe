-- What each command does: the planner's own promise of the call that it makes.
use Rattle.std.specs.Prelude.{◌≡◌, ℕ, ◌≤◌, List, length, is_ok, Err, Result, ◌≢◌}
use Rattle.console.specs.declared.command.Command.{Command}
use Rattle.console.specs.declared.command.Command.TheVariants.{Plan, Guarantee, Route, Backup, Withdraw, Restore, TraceLink, TraceGroup}
use Rattle.definitions.specs.declared.Failure.{Failure}
use Rattle.definitions.specs.declared.Failure.TheVariants.{OneLink, OneGroup}
use Rattle.definitions.specs.Measures.{Scale}
use Rattle.histories.specs.declared.call.Call.TheVariants as call
use Rattle.histories.specs.declared.fault.PlannerFault.{PlannerFault}
use Rattle.histories.specs.Faults.{planner_code}
use Rattle.histories.specs.Answers.{WithdrawAnswer, RestoreAnswer, PlanAnswer, GuaranteeAnswer, RouteAnswer, BackupAnswer, TraceAnswer}
use Rattle.histories.specs.Histories.{Follows}
use Rattle.histories.specs.Promise.{GuaranteeHistory, RouteHistory, TraceHistory}
use Rattle.histories.specs.State.{State}
use Rattle.console.specs.declared.print.Answer.TheVariants.{Done, Count, Value, Places}
use Rattle.dialogue.specs.Outcomes.{Outcome, mapped, pair_traced}

-- The call of a planner answered q, of which P holds, and the outcome says just that.
abbrev pub By : {A : Type 0} → (A → Outcome) → Result Outcome PlannerFault → (Result A PlannerFault → Type 0) → Type 0
By {A} f r P = (q : Result A PlannerFault) × (r ≡ mapped f q) × P q

-- A trace under a failure.
abbrev pub TraceMade : Scale → State → ℕ → Failure → Result Outcome PlannerFault → List ℕ → List ℕ → Type 0
TraceMade m s u f r buffer buffer' = By pair_traced r (λ q.
    TraceAnswer m s u f buffer q buffer' × Follows m s (call.Trace u f (length buffer)) (is_ok q) s × TraceHistory m s u f q buffer buffer')

-- A planner in the state s made the call of the command: what it answered, and what it left in its state and in the buffer.
abbrev pub Made : Scale → State → Command → Result Outcome PlannerFault → State → List ℕ → List ℕ → Type 0
Made m s (Plan t) r s' buffer buffer' = By Count r (λ q. PlanAnswer m s t q s' × Follows m s (call.Plan t) (is_ok q) s')
Made m s (Guarantee u) r s' buffer buffer' = (s' ≡ s) × By Value r (λ q. GuaranteeAnswer m s u q × Follows m s (call.Guarantee u) (is_ok q) s × GuaranteeHistory m s u q)
Made m s (Route u) r s' buffer buffer' = (s' ≡ s) × By Places r (λ q.
    RouteAnswer m s u buffer q buffer' × Follows m s (call.Route u (length buffer)) (is_ok q) s × RouteHistory m s u q buffer buffer')
Made m s (Backup u) r s' buffer buffer' = (s' ≡ s) × By Places r (λ q.
    BackupAnswer m s u buffer q buffer' × Follows m s (call.Backup u (length buffer)) (is_ok q) s)
Made m s (Withdraw k) r s' buffer buffer' = By (λ _. Done) r (λ q. WithdrawAnswer s k q s' × Follows m s (call.Withdraw k) (is_ok q) s')
Made m s (Restore k) r s' buffer buffer' = By (λ _. Done) r (λ q. RestoreAnswer s k q s' × Follows m s (call.Restore k) (is_ok q) s')
Made m s (TraceLink u k) r s' buffer buffer' = (s' ≡ s) × TraceMade m s u (OneLink k) r buffer buffer'
Made m s (TraceGroup u b) r s' buffer buffer' = (s' ≡ s) × TraceMade m s u (OneGroup b) r buffer buffer'

-- The answer is no refusal with the number 16.
abbrev pub NotFull : {A : Type 0} → Result A PlannerFault → Type 0
NotFull r = (f : PlannerFault) → r ≡ Err f → (planner_code f).number ≢ 16

-- The call was made, and a buffer of 512 entries holds whatever is written.
pub record Carried (m : Scale) (s : State) (c : Command) (r : Result Outcome PlannerFault) (s' : State) (buffer buffer' : List ℕ) : Type 0 where
  pub made : Made m s c r s' buffer buffer'
  pub fits : 512 ≤ length buffer → NotFull r
