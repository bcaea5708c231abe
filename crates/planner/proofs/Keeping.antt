-- All that is to show of a call that changes a planner, from its answer.
use Rattle.std.proofs.Common.{◌≡◌, ℕ, is_ok, Result}
use Rattle.definitions.specs.Networks.{Net, Limits}
use Rattle.definitions.specs.Measures.{Scale}
use Rattle.histories.specs.declared.fault.PlannerFault.{PlannerFault}
use Rattle.histories.specs.declared.call.Call.TheVariants as call
use Rattle.histories.specs.Answers.{WithdrawAnswer, RestoreAnswer, PlanAnswer}
use Rattle.histories.specs.Histories.{Follows}
use Rattle.histories.proofs.Following.{withdraw_follows, restore_follows, plan_follows}
use Rattle.networks.specs.declared.network.Network.{Ghosts as NetworkGhosts}
use Rattle.measures.specs.declared.Measure.{Ghosts as MeasureGhosts}
use Rattle.planner.specs.declared.planner.Planner.{Planner}
use Rattle.planner.specs.Planners.{state, Unchanged}
use Rattle.planner.proofs.Room.{room}

module _ {N M : Type 0} {gn : NetworkGhosts N} {gm : MeasureGhosts M} (meaning : N → Net) (limits : (x : N) → Limits (meaning x)) (m : Scale) (p p' : Planner N M gn gm) where
  pub withdraw_kept : (k : ℕ) (r : Result (Unit {0}) PlannerFault) → WithdrawAnswer (state meaning p) k r (state meaning p') → p'.network ≡ p.network → Unchanged r p p' →
      record {
        answer : WithdrawAnswer (state meaning p) k r (state meaning p');
        keeps : p'.network ≡ p.network;
        unchanged : Unchanged r p p';
        follows : Follows m (state meaning p) (call.Withdraw k) (is_ok r) (state meaning p');
      }
  withdraw_kept k r A K U = record {
    answer = A;
    keeps = K;
    unchanged = U;
    follows = withdraw_follows m (state meaning p) (state meaning p') k r (room meaning limits p k) A;
  }

  pub restore_kept : (k : ℕ) (r : Result (Unit {0}) PlannerFault) → RestoreAnswer (state meaning p) k r (state meaning p') → p'.network ≡ p.network → Unchanged r p p' →
      record {
        answer : RestoreAnswer (state meaning p) k r (state meaning p');
        keeps : p'.network ≡ p.network;
        unchanged : Unchanged r p p';
        follows : Follows m (state meaning p) (call.Restore k) (is_ok r) (state meaning p');
      }
  restore_kept k r A K U = record {
    answer = A;
    keeps = K;
    unchanged = U;
    follows = restore_follows m (state meaning p) (state meaning p') k r (room meaning limits p k) A;
  }

  pub plan_kept : (t : ℕ) (r : Result ℕ PlannerFault) → PlanAnswer m (state meaning p) t r (state meaning p') → p'.network ≡ p.network → Unchanged r p p' →
      record {
        answer : PlanAnswer m (state meaning p) t r (state meaning p');
        keeps : p'.network ≡ p.network;
        unchanged : Unchanged r p p';
        follows : Follows m (state meaning p) (call.Plan t) (is_ok r) (state meaning p');
      }
  plan_kept t r A K U = record {
    answer = A;
    keeps = K;
    unchanged = U;
    follows = plan_follows m (state meaning p) (state meaning p') t r A;
  }
