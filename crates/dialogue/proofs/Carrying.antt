-- A command that was carried out, from the planner's own promises.
use Rattle.std.proofs.Common.{◌≡◌, ℕ, List, length, is_ok, Result, sym, refl, subst}
use Rattle.console.specs.declared.command.Command.{Command}
use Rattle.console.specs.declared.command.Command.TheVariants.{Plan, Guarantee, Route, Backup, Withdraw, Restore, TraceLink, TraceGroup}
use Rattle.definitions.specs.declared.Failure.TheVariants.{OneLink, OneGroup}
use Rattle.definitions.specs.Measures.{Scale, Laws}
use Rattle.definitions.specs.Networks.{Limits}
use Rattle.histories.specs.declared.call.Call.TheVariants as call
use Rattle.histories.specs.declared.fault.PlannerFault.{PlannerFault}
use Rattle.histories.specs.Answers.{WithdrawAnswer, RestoreAnswer, PlanAnswer, GuaranteeAnswer, RouteAnswer, BackupAnswer, TraceAnswer}
use Rattle.histories.specs.Histories.{Follows}
use Rattle.histories.specs.Promise.{GuaranteeHistory, RouteHistory, TraceHistory}
use Rattle.histories.specs.State.{State, Right}
use Rattle.console.specs.declared.print.Answer.TheVariants.{Done, Count, Value, Places}
use Rattle.dialogue.specs.Commands.{Carried}
use Rattle.dialogue.specs.Outcomes.{Outcome, mapped, pair_traced}
use Rattle.dialogue.proofs.Room.{outcome_fits, plan_fits, withdraw_fits, restore_fits, guarantee_fits, route_fits, backup_fits, trace_fits}

module _ (m : Scale) (s : State) (c : Command) (r : Result Outcome PlannerFault) (buffer buffer' : List ℕ) where
  module _ (s' : State) where
    pub plan_carried : (t : ℕ) → c ≡ Plan t → (q : Result ℕ PlannerFault) → r ≡ mapped Count q → PlanAnswer m s t q s' → Follows m s (call.Plan t) (is_ok q) s' → Carried m s c r s' buffer buffer'
    plan_carried t e q o A F = subst (λ k. Carried m s k r s' buffer buffer') (sym e)
        (record { made = (q, o, (A, F)); fits = λ _. outcome_fits Count q r o (plan_fits s s' m t q A) })

    pub withdraw_carried : (k : ℕ) → c ≡ Withdraw k → (q : Result (Unit {0}) PlannerFault) → r ≡ mapped (λ _. Done) q → WithdrawAnswer s k q s' → Follows m s (call.Withdraw k) (is_ok q) s' → Carried m s c r s' buffer buffer'
    withdraw_carried k e q o A F = subst (λ z. Carried m s z r s' buffer buffer') (sym e)
        (record { made = (q, o, (A, F)); fits = λ _. outcome_fits (λ _. Done) q r o (withdraw_fits s s' k q A) })

    pub restore_carried : (k : ℕ) → c ≡ Restore k → (q : Result (Unit {0}) PlannerFault) → r ≡ mapped (λ _. Done) q → RestoreAnswer s k q s' → Follows m s (call.Restore k) (is_ok q) s' → Carried m s c r s' buffer buffer'
    restore_carried k e q o A F = subst (λ z. Carried m s z r s' buffer buffer') (sym e)
        (record { made = (q, o, (A, F)); fits = λ _. outcome_fits (λ _. Done) q r o (restore_fits s s' k q A) })

  module _ (M : Laws m) (N : Limits s.net) (R : Right m s) (u : ℕ) where
    pub guarantee_carried : c ≡ Guarantee u → (q : Result ℕ PlannerFault) → r ≡ mapped Value q → GuaranteeAnswer m s u q → Follows m s (call.Guarantee u) (is_ok q) s → GuaranteeHistory m s u q → Carried m s c r s buffer buffer'
    guarantee_carried e q o A F H = subst (λ z. Carried m s z r s buffer buffer') (sym e)
        (record { made = (refl, (q, o, (A, F, H))); fits = λ _. outcome_fits Value q r o (guarantee_fits m M s N R u q A) })

    pub route_carried : c ≡ Route u → (q : Result ℕ PlannerFault) → r ≡ mapped Places q → RouteAnswer m s u buffer q buffer' → Follows m s (call.Route u (length buffer)) (is_ok q) s → RouteHistory m s u q buffer buffer' → Carried m s c r s buffer buffer'
    route_carried e q o A F H = subst (λ z. Carried m s z r s buffer buffer') (sym e)
        (record { made = (refl, (q, o, (A, F, H))); fits = λ room. outcome_fits Places q r o (route_fits m M s N R u buffer buffer' room q A) })

    pub backup_carried : c ≡ Backup u → (q : Result ℕ PlannerFault) → r ≡ mapped Places q → BackupAnswer m s u buffer q buffer' → Follows m s (call.Backup u (length buffer)) (is_ok q) s → Carried m s c r s buffer buffer'
    backup_carried e q o A F = subst (λ z. Carried m s z r s buffer buffer') (sym e)
        (record { made = (refl, (q, o, (A, F))); fits = λ room. outcome_fits Places q r o (backup_fits m M s N R u buffer buffer' room q A) })

    module _ (k : ℕ) (q : Result (ℕ × ℕ) PlannerFault) (o : r ≡ mapped pair_traced q) where
      pub trace_link_carried : c ≡ TraceLink u k → TraceAnswer m s u (OneLink k) buffer q buffer' → Follows m s (call.Trace u (OneLink k) (length buffer)) (is_ok q) s → TraceHistory m s u (OneLink k) q buffer buffer' → Carried m s c r s buffer buffer'
      trace_link_carried e A F H = subst (λ z. Carried m s z r s buffer buffer') (sym e)
          (record { made = (refl, (q, o, (A, F, H))); fits = λ room. outcome_fits pair_traced q r o (trace_fits m M s N R u buffer buffer' room (OneLink k) q A) })

      pub trace_group_carried : c ≡ TraceGroup u k → TraceAnswer m s u (OneGroup k) buffer q buffer' → Follows m s (call.Trace u (OneGroup k) (length buffer)) (is_ok q) s → TraceHistory m s u (OneGroup k) q buffer buffer' → Carried m s c r s buffer buffer'
      trace_group_carried e A F H = subst (λ z. Carried m s z r s buffer buffer') (sym e)
          (record { made = (refl, (q, o, (A, F, H))); fits = λ room. outcome_fits pair_traced q r o (trace_fits m M s N R u buffer buffer' room (OneGroup k) q A) })
