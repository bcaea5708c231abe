-- What each call answers, and what it leaves in the planner and in the buffer.
use Rattle.std.specs.Prelude.{◌≡◌, ℕ, true, false, List, length, Some, Ok, Err, Result}
use Rattle.definitions.specs.declared.Failure.{Failure}
use Rattle.definitions.specs.Measures.{Scale}
use Rattle.definitions.specs.Plans.{Planned}
use Rattle.histories.specs.declared.fault.PlannerFault.{PlannerFault}
use Rattle.routes.specs.Walks.{written}
use Rattle.histories.specs.Questions.{WithdrawCall, RestoreCall, PlanCall, GuaranteeCall, NextCall, RouteCall, BackupCall, TraceCall}
use Rattle.histories.specs.State.{State, marked, in_service, Stands, remarked, PlanRight}

abbrev pub WithdrawAnswer : State → ℕ → Result (Unit {0}) PlannerFault → State → Type 0
WithdrawAnswer s k r s' = WithdrawCall s.net (marked s.marks k ≡ true) k (λ f. (r ≡ Err f) × (s' ≡ s)) ((r ≡ Ok tt) × (s' ≡ remarked s k true))

abbrev pub RestoreAnswer : State → ℕ → Result (Unit {0}) PlannerFault → State → Type 0
RestoreAnswer s k r s' = RestoreCall s.net (marked s.marks k ≡ true) k (λ f. (r ≡ Err f) × (s' ≡ s)) ((r ≡ Ok tt) × (s' ≡ remarked s k false))

-- s' is s with a plan to t, in which c nodes have a guarantee
pub record Replanned (m : Scale) (s s' : State) (t c : ℕ) : Type 0 where
  pub net : s'.net ≡ s.net
  pub marks : s'.marks ≡ s.marks
  pub standing : s'.standing ≡ Some t
  pub right : PlanRight m (in_service s) (Some t) s'.records
  pub count : Planned m (in_service s) t c

abbrev pub PlanAnswer : Scale → State → ℕ → Result ℕ PlannerFault → State → Type 0
PlanAnswer m s t r s' = PlanCall s.net t (λ f. (r ≡ Err f) × (s' ≡ s)) ((c : ℕ) × (r ≡ Ok c) × Replanned m s s' t c)

abbrev pub GuaranteeAnswer : Scale → State → ℕ → Result ℕ PlannerFault → Type 0
GuaranteeAnswer m s u r = GuaranteeCall m (in_service s) (Stands s) u (λ f. r ≡ Err f) (λ g. r ≡ Ok g)

abbrev pub NextAnswer : Scale → State → ℕ → Result ℕ PlannerFault → Type 0
NextAnswer m s u r = NextCall m (in_service s) (Stands s) u (λ f. r ≡ Err f) (λ k. r ≡ Ok k)

abbrev pub RouteAnswer : Scale → State → ℕ → List ℕ → Result ℕ PlannerFault → List ℕ → Type 0
RouteAnswer m s u buffer r buffer' =
    RouteCall m (in_service s) (Stands s) u (length buffer) (λ f. (r ≡ Err f) × (buffer' ≡ buffer)) (λ ks. (r ≡ Ok (length ks)) × (buffer' ≡ written ks buffer))

abbrev pub BackupAnswer : Scale → State → ℕ → List ℕ → Result ℕ PlannerFault → List ℕ → Type 0
BackupAnswer m s u buffer r buffer' =
    BackupCall m (in_service s) (Stands s) u (length buffer) (λ f. (r ≡ Err f) × (buffer' ≡ buffer)) (λ ks. (r ≡ Ok (length ks)) × (buffer' ≡ written ks buffer))

abbrev pub TraceAnswer : Scale → State → ℕ → Failure → List ℕ → Result (ℕ × ℕ) PlannerFault → List ℕ → Type 0
TraceAnswer m s u f buffer r buffer' =
    TraceCall m s.net (in_service s) (Stands s) u f (length buffer) (λ e. (r ≡ Err e) × (buffer' ≡ buffer)) (λ w ks. (r ≡ Ok (w, length ks)) × (buffer' ≡ written ks buffer))
