-- What each call adds to the list of calls before it, and what the reading calls promise after any list.
use Rattle.std.proofs.Common.{ℕ, ◌<◌, ◌≤◌, ◌↔◌, List, length, is_ok, Result}
use Rattle.definitions.specs.declared.Link.{Link}
use Rattle.definitions.specs.declared.Failure.{Failure}
use Rattle.definitions.specs.Networks.{Holds, Limits}
use Rattle.definitions.specs.Measures.{Scale, Laws}
use Rattle.histories.specs.declared.fault.PlannerFault.{PlannerFault}
use Rattle.histories.specs.declared.call.Call.TheVariants as call
use Rattle.histories.specs.State.{State}
use Rattle.histories.specs.Answers.{WithdrawAnswer, RestoreAnswer, PlanAnswer, GuaranteeAnswer, NextAnswer, RouteAnswer, BackupAnswer, TraceAnswer}
use Rattle.histories.specs.Histories.{Follows}
use Rattle.histories.specs.Promise.{GuaranteePromise, RoutePromise, TracePromise, GuaranteeHistory, RouteHistory, TraceHistory}
use Rattle.histories.proofs.History.{follows, withdraw_told, restore_told, plan_told, read_told, any_calls}
use Rattle.histories.proofs.Promises.{guarantee_promised, route_promised, trace_promised}
use Rattle.histories.proofs.Accepting.{accept_guarantee, accept_next, accept_route, accept_backup, accept_trace}

-- The calls that change a planner.
module _ (m : Scale) (s s' : State) where
  pub withdraw_follows : (k : ℕ) (r : Result (Unit {0}) PlannerFault) → ((l : Link) → Holds s.net k l → k < length s.marks) →
      WithdrawAnswer s k r s' → Follows m s (call.Withdraw k) (is_ok r) s'
  withdraw_follows k r room A = follows m s (call.Withdraw k) (is_ok r) s' (withdraw_told m k s s' r room A)

  pub restore_follows : (k : ℕ) (r : Result (Unit {0}) PlannerFault) → ((l : Link) → Holds s.net k l → k < length s.marks) →
      RestoreAnswer s k r s' → Follows m s (call.Restore k) (is_ok r) s'
  restore_follows k r room A = follows m s (call.Restore k) (is_ok r) s' (restore_told m k s s' r room A)

  pub plan_follows : (t : ℕ) (r : Result ℕ PlannerFault) → PlanAnswer m s t r s' → Follows m s (call.Plan t) (is_ok r) s'
  plan_follows t r A = follows m s (call.Plan t) (is_ok r) s' (plan_told m t s s' r A)

-- The calls that read the plan.
module _ (m : Scale) (M : Laws m) (s : State) (N : Limits s.net) (u : ℕ) where
  module _ (r : Result ℕ PlannerFault) where
    pub guarantee_follows : GuaranteeAnswer m s u r → Follows m s (call.Guarantee u) (is_ok r) s
    guarantee_follows A = follows m s (call.Guarantee u) (is_ok r) s (read_told m s (call.Guarantee u) (is_ok r) (λ k x. x) (λ x. x) (accept_guarantee m M s N u r A))

    pub guarantee_history : GuaranteeAnswer m s u r → GuaranteeHistory m s u r
    guarantee_history A = any_calls m s (λ n net t. u < n.nodes → GuaranteePromise m n net t u r) (λ t R st lt. guarantee_promised m M s N R t u st lt r A)

    pub next_follows : NextAnswer m s u r → Follows m s (call.Next u) (is_ok r) s
    next_follows A = follows m s (call.Next u) (is_ok r) s (read_told m s (call.Next u) (is_ok r) (λ k x. x) (λ x. x) (accept_next m M s N u r A))

  module _ (buffer buffer' : List ℕ) where
    module _ (r : Result ℕ PlannerFault) where
      pub route_history : RouteAnswer m s u buffer r buffer' → RouteHistory m s u r buffer buffer'
      route_history A = any_calls m s (λ n net t. u < n.nodes → RoutePromise m net t u r buffer buffer') (λ t R st lt. route_promised m M s N R t u st lt r buffer buffer' A)

    pub trace_history : (f : Failure) (r : Result (ℕ × ℕ) PlannerFault) → TraceAnswer m s u f buffer r buffer' → TraceHistory m s u f r buffer buffer'
    trace_history f r A = any_calls m s (λ n net t. u < n.nodes → TracePromise m n net t u f r buffer buffer') (λ t R st lt. trace_promised m M s N R t u st lt f r buffer buffer' A)

    -- with a buffer as good as the room that the call names
    module _ (room : ℕ) (size : (ks : List ℕ) → length ks ≤ 511 → (length ks ≤ room) ↔ (length ks ≤ length buffer)) where
      pub route_follows : (r : Result ℕ PlannerFault) → RouteAnswer m s u buffer r buffer' → Follows m s (call.Route u room) (is_ok r) s
      route_follows r A = follows m s (call.Route u room) (is_ok r) s (read_told m s (call.Route u room) (is_ok r) (λ k x. x) (λ x. x) (accept_route m M s N u buffer buffer' room size r A))

      pub backup_follows : (r : Result ℕ PlannerFault) → BackupAnswer m s u buffer r buffer' → Follows m s (call.Backup u room) (is_ok r) s
      backup_follows r A = follows m s (call.Backup u room) (is_ok r) s (read_told m s (call.Backup u room) (is_ok r) (λ k x. x) (λ x. x) (accept_backup m M s N u buffer buffer' room size r A))

      pub trace_follows : (f : Failure) (r : Result (ℕ × ℕ) PlannerFault) → TraceAnswer m s u f buffer r buffer' → Follows m s (call.Trace u f room) (is_ok r) s
      trace_follows f r A = follows m s (call.Trace u f room) (is_ok r) s (read_told m s (call.Trace u f room) (is_ok r) (λ k x. x) (λ x. x) (accept_trace m M s N u buffer buffer' room size f r A))

-- All that is to show of a reading call, from its answer.
module _ (m : Scale) (M : Laws m) (s : State) (N : Limits s.net) (u : ℕ) where
  pub guarantee_kept : (r : Result ℕ PlannerFault) → GuaranteeAnswer m s u r →
      record { answer : GuaranteeAnswer m s u r; follows : Follows m s (call.Guarantee u) (is_ok r) s; history : GuaranteeHistory m s u r }
  guarantee_kept r A = record { answer = A; follows = guarantee_follows m M s N u r A; history = guarantee_history m M s N u r A }

  pub next_kept : (r : Result ℕ PlannerFault) → NextAnswer m s u r →
      record { answer : NextAnswer m s u r; follows : Follows m s (call.Next u) (is_ok r) s }
  next_kept r A = record { answer = A; follows = next_follows m M s N u r A }

  module _ (buffer buffer' : List ℕ) where
    exact : (ks : List ℕ) → length ks ≤ 511 → (length ks ≤ length buffer) ↔ (length ks ≤ length buffer)
    exact ks le = (λ x. x, λ x. x)

    pub route_kept : (r : Result ℕ PlannerFault) → RouteAnswer m s u buffer r buffer' →
        record { answer : RouteAnswer m s u buffer r buffer'; follows : Follows m s (call.Route u (length buffer)) (is_ok r) s; history : RouteHistory m s u r buffer buffer' }
    route_kept r A = record { answer = A; follows = route_follows m M s N u buffer buffer' (length buffer) exact r A; history = route_history m M s N u buffer buffer' r A }

    pub backup_kept : (r : Result ℕ PlannerFault) → BackupAnswer m s u buffer r buffer' →
        record { answer : BackupAnswer m s u buffer r buffer'; follows : Follows m s (call.Backup u (length buffer)) (is_ok r) s }
    backup_kept r A = record { answer = A; follows = backup_follows m M s N u buffer buffer' (length buffer) exact r A }

    pub trace_kept : (f : Failure) (r : Result (ℕ × ℕ) PlannerFault) → TraceAnswer m s u f buffer r buffer' →
        record { answer : TraceAnswer m s u f buffer r buffer'; follows : Follows m s (call.Trace u f (length buffer)) (is_ok r) s; history : TraceHistory m s u f r buffer buffer' }
    trace_kept f r A = record { answer = A; follows = trace_follows m M s N u buffer buffer' (length buffer) exact f r A; history = trace_history m M s N u buffer buffer' f r A }
