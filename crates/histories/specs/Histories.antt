-- Lists of calls on a planner just opened, the newest first, and what they leave.
use Rattle.std.specs.Prelude.{◌≡◌, ℕ, Bool, true, ◌↔◌, List, [], ◌∷◌, Some, ◌≢◌}
use Rattle.definitions.specs.Networks.{Net, without}
use Rattle.definitions.specs.Measures.{Scale}
use Rattle.histories.specs.declared.call.Event.{Event}
use Rattle.histories.specs.declared.call.Call.{Call}
use Rattle.histories.specs.declared.call.Call.TheVariants as call
use Rattle.histories.specs.Questions.{WithdrawCall, RestoreCall, PlanCall, GuaranteeCall, NextCall, RouteCall, BackupCall, TraceCall}
use Rattle.histories.specs.State.{State, marked, PlanRight}

-- The latest accepted call of the list among those that P picks is c.
pub data Latest (P : Call → Type 0) (c : Call) : List Event → Type 0 where
  newest : {h : List Event} (e : Event) → e.call ≡ c → e.accepted ≡ true → P c → Latest P c (e ∷ h)
  before : {h : List Event} (e : Event) → (P e.call → e.accepted ≢ true) → Latest P c h → Latest P c (e ∷ h)

-- the withdraws and restores that name k
abbrev pub Names : ℕ → Call → Type 0
Names k (call.Withdraw j) = j ≡ k
Names k (call.Restore j) = j ≡ k
Names k (call.Plan t) = ⊥
Names k (call.Guarantee u) = ⊥
Names k (call.Next u) = ⊥
Names k (call.Route u room) = ⊥
Names k (call.Backup u room) = ⊥
Names k (call.Trace u f room) = ⊥

-- the calls that begin or end a plan
abbrev pub Changes : Call → Type 0
Changes (call.Withdraw j) = Unit {0}
Changes (call.Restore j) = Unit {0}
Changes (call.Plan t) = Unit {0}
Changes (call.Guarantee u) = ⊥
Changes (call.Next u) = ⊥
Changes (call.Route u room) = ⊥
Changes (call.Backup u room) = ⊥
Changes (call.Trace u f room) = ⊥

-- Link k is withdrawn: the latest accepted withdraw or restore that names it is a withdraw.
abbrev pub Withdrawn : List Event → ℕ → Type 0
Withdrawn h k = Latest (Names k) (call.Withdraw k) h

-- A plan to t stands: the latest accepted withdraw, restore or plan is that plan.
abbrev pub Standing : List Event → ℕ → Type 0
Standing h t = Latest Changes (call.Plan t) h

-- w holds of just the withdrawn links.
abbrev pub Marks : List Event → (ℕ → Bool) → Type 0
Marks h w = (k : ℕ) → (w k ≡ true) ↔ Withdrawn h k

-- The call c, made after the calls h on a planner opened over n, is accepted: none of its questions is answered with no.
-- w holds of the links withdrawn after h.
abbrev pub Accepted : Scale → Net → List Event → (ℕ → Bool) → Call → Type 0
Accepted m n h w (call.Withdraw k) = WithdrawCall n (Withdrawn h k) k (λ f. ⊥) (Unit {0})
Accepted m n h w (call.Restore k) = RestoreCall n (Withdrawn h k) k (λ f. ⊥) (Unit {0})
Accepted m n h w (call.Plan t) = PlanCall n t (λ f. ⊥) (Unit {0})
Accepted m n h w (call.Guarantee u) = GuaranteeCall m (without w n) (Standing h) u (λ f. ⊥) (λ g. Unit {0})
Accepted m n h w (call.Next u) = NextCall m (without w n) (Standing h) u (λ f. ⊥) (λ k. Unit {0})
Accepted m n h w (call.Route u room) = RouteCall m (without w n) (Standing h) u room (λ f. ⊥) (λ ks. Unit {0})
Accepted m n h w (call.Backup u room) = BackupCall m (without w n) (Standing h) u room (λ f. ⊥) (λ ks. Unit {0})
Accepted m n h w (call.Trace u f room) = TraceCall m n (without w n) (Standing h) u f room (λ e. ⊥) (λ v ks. Unit {0})

-- Each call of the list was accepted or refused as its questions ask after the calls before it.
abbrev pub Ran : Scale → Net → List Event → Type 0
Ran m n [] = Unit {0}
Ran m n (e ∷ h) = ((w : ℕ → Bool) → Marks h w → (e.accepted ≡ true) ↔ Accepted m n h w e.call) × Ran m n h

-- A planner in state s, opened over n, is what the calls h leave.
pub record After (m : Scale) (n : Net) (h : List Event) (s : State) : Type 0 where
  pub net : s.net ≡ n
  pub marks : Marks h (marked s.marks)
  pub standing : (t : ℕ) → (s.standing ≡ Some t) ↔ Standing h t
  pub right : PlanRight m (without (marked s.marks) n) s.standing s.records

-- A call c, accepted or not as b says, takes a planner from s to s': whatever calls h led to s, the planner is then what
-- h and c leave, and c was accepted just where its questions after h ask it.
abbrev pub Follows : Scale → State → Call → Bool → State → Type 0
Follows m s c b s' = (n : Net) (h : List Event) → After m n h s →
    After m n (record { call = c; accepted = b } ∷ h) s' × ((w : ℕ → Bool) → Marks h w → (b ≡ true) ↔ Accepted m n h w c)

-- Whatever list of calls led to the state s: wherever a plan to t stands after it, P holds of the network that was opened,
-- of that network without the withdrawn links, and of t.
abbrev pub AfterAnyCalls : Scale → State → (Net → Net → ℕ → Type 0) → Type 0
AfterAnyCalls m s P = (n : Net) (h : List Event) → After m n h s → (t : ℕ) → Standing h t → (w : ℕ → Bool) → Marks h w → P n (without w n) t
