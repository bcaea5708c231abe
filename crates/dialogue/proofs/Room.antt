-- A buffer of 512 entries holds every route, backup and trace.
use Rattle.std.proofs.Common.{◌≡◌, ℕ, ◌<◌, ◌≤◌, List, length, Ok, Err, Result, sym, refl, ap, ◌∙◌, inl, inr, arith}
use Rattle.definitions.specs.declared.Failure.{Failure}
use Rattle.definitions.specs.declared.Failure.TheVariants.{Nothing, OneLink, OneGroup}
use Rattle.definitions.specs.Measures.{Scale, Laws}
use Rattle.definitions.specs.Networks.{Limits, failed}
use Rattle.definitions.specs.Plans.{worst, Guarantee}
use Rattle.definitions.proofs.Short.{held_short}
use Rattle.histories.specs.declared.fault.PlannerFault.{PlannerFault}
use Rattle.histories.specs.declared.fault.PlannerFault.TheVariants.{NoLink, Withdrawn, InService, NoDestination, NoPlan, NoNode, NoGuarantee, AtDestination, NoGroup}
use Rattle.histories.specs.Answers.{WithdrawAnswer, RestoreAnswer, PlanAnswer, GuaranteeAnswer, RouteAnswer, BackupAnswer, TraceAnswer}
use Rattle.histories.specs.Faults.{planner_code}
use Rattle.histories.specs.Questions.{Reads, Fits, Fails}
use Rattle.histories.specs.State.{State, in_service, Stands, Right}
use Rattle.histories.proofs.Accepting.{backup_short, traced_short}
use Rattle.histories.proofs.Plain.{ok_err, err_one}
use Rattle.histories.proofs.Promises.{guarantee_held}
use Rattle.histories.proofs.Reading.{service_limits}
use Rattle.dialogue.specs.Commands.{NotFull}
use Rattle.dialogue.specs.Outcomes.{Outcome, mapped}

other : {A : Type 0} (q : Result A PlannerFault) (f : PlannerFault) → ((planner_code f).number ≡ 16 → ⊥) → q ≡ Err f → NotFull q
other q f n e g h c = n (ap (λ x. (planner_code x).number) (err_one f g (sym e ∙ h)) ∙ c)

answered : {A : Type 0} (q : Result A PlannerFault) (x : A) → q ≡ Ok x → NotFull q
answered q x e f h c = ok_err q x f e h

mapped_fits : {A : Type 0} (f : A → Outcome) (q : Result A PlannerFault) → NotFull q → NotFull (mapped f q)
mapped_fits f (Ok x) n g h c = ok_err (mapped f (Ok x)) (f x) g refl h
mapped_fits f (Err e) n g h c = n g (ap Err (err_one e g h)) c

pub outcome_fits : {A : Type 0} (f : A → Outcome) (q : Result A PlannerFault) (r : Result Outcome PlannerFault) → r ≡ mapped f q → NotFull q → NotFull r
outcome_fits f q r e n g h = mapped_fits f q n g (sym e ∙ h)

fits : {A : Type 0} (q : Result A PlannerFault) (ks : List ℕ) (room : ℕ) (refused : PlannerFault → Type 0) (accepted : Type 0) → length ks ≤ room → (accepted → NotFull q) → Fits ks room refused accepted → NotFull q
fits q ks room refused accepted le ok (inl (_, a)) = ok a
fits q ks room refused accepted le ok (inr (n, _)) = absurd (n le)

module _ (s s' : State) where
  pub plan_fits : (m : Scale) (t : ℕ) (q : Result ℕ PlannerFault) → PlanAnswer m s t q s' → NotFull q
  plan_fits m t q (inl (lt, (n, e, P))) = answered q n e
  plan_fits m t q (inr (n, (e, same))) = other q (NoDestination t) (λ c. omega arith) e

  pub withdraw_fits : (k : ℕ) (q : Result (Unit {0}) PlannerFault) → WithdrawAnswer s k q s' → NotFull q
  withdraw_fits k q (inl (l, h, inl (o, (e, same)))) = answered q tt e
  withdraw_fits k q (inl (l, h, inr (o, (e, same)))) = other q (Withdrawn k) (λ c. omega arith) e
  withdraw_fits k q (inr (n, (e, same))) = other q (NoLink k) (λ c. omega arith) e

  pub restore_fits : (k : ℕ) (q : Result (Unit {0}) PlannerFault) → RestoreAnswer s k q s' → NotFull q
  restore_fits k q (inl (l, h, inl (o, (e, same)))) = answered q tt e
  restore_fits k q (inl (l, h, inr (o, (e, same)))) = other q (InService k) (λ c. omega arith) e
  restore_fits k q (inr (n, (e, same))) = other q (NoLink k) (λ c. omega arith) e

module _ (m : Scale) (M : Laws m) (s : State) (N : Limits s.net) (R : Right m s) (u : ℕ) where
  reads : {A : Type 0} (q : Result A PlannerFault) (refused : PlannerFault → Type 0) (accepted : ℕ → ℕ → Type 0) →
      ((f : PlannerFault) → refused f → q ≡ Err f) →
      ((t g : ℕ) → Stands s t → u < s.net.nodes → Guarantee m (in_service s) t u g → accepted t g → NotFull q) →
      Reads m (in_service s) (Stands s) u refused accepted → NotFull q
  reads q refused accepted err ok (inr (n, r)) = other q NoPlan (λ c. omega arith) (err NoPlan r)
  reads q refused accepted err ok (inl (t, st, inr (n, r))) = other q (NoNode u) (λ c. omega arith) (err (NoNode u) r)
  reads q refused accepted err ok (inl (t, st, inl (lt, inr (n, r)))) = other q (NoGuarantee u) (λ c. omega arith) (err (NoGuarantee u) r)
  reads q refused accepted err ok (inl (t, st, inl (lt, inl (g, G, a)))) = ok t g st lt G a

  pub guarantee_fits : (q : Result ℕ PlannerFault) → GuaranteeAnswer m s u q → NotFull q
  guarantee_fits q = reads q (λ f. q ≡ Err f) _ (λ f r. r) (λ t g st lt G e. answered q g e)

  module _ (buffer buffer' : List ℕ) (room : 512 ≤ length buffer) where
    pub route_fits : (q : Result ℕ PlannerFault) → RouteAnswer m s u buffer q buffer' → NotFull q
    route_fits q = reads q (λ f. (q ≡ Err f) × (buffer' ≡ buffer)) _ (λ f r. r.0) (λ t g st lt G (ks, H, F).
        let short = held_short (worst m (in_service s) t) (in_service s) (service_limits s N) t u ks H lt in
        fits q ks (length buffer) (λ f. (q ≡ Err f) × (buffer' ≡ buffer)) _ (omega (arith, N.few_nodes, short)) (λ a. answered q _ a.0) F)

    pub backup_fits : (q : Result ℕ PlannerFault) → BackupAnswer m s u buffer q buffer' → NotFull q
    backup_fits q = reads q (λ f. (q ≡ Err f) × (buffer' ≡ buffer)) _ (λ f r. r.0) (λ t g st lt G a. elim a [
      | inr (n, r) ↦ other q (AtDestination u) (λ c. omega arith) r.0
      | inl (n, (k, l, ks, K, B, F)) ↦
          let short = backup_short m (in_service s) (service_limits s N) t k ks B in
          fits q ks (length buffer) (λ f. (q ≡ Err f) × (buffer' ≡ buffer)) _ (omega (arith, short)) (λ a. answered q _ a.0) F
    ])

    -- the questions that name the failure
    fails : {A : Type 0} (q : Result A PlannerFault) (f : Failure) (refused : PlannerFault → Type 0) (accepted : Type 0) → ((e : PlannerFault) → refused e → q ≡ Err e) → (accepted → NotFull q) → Fails s.net f refused accepted → NotFull q
    fails q Nothing refused accepted err ok a = ok a
    fails q (OneLink k) refused accepted err ok (inl (l, h, a)) = ok a
    fails q (OneLink k) refused accepted err ok (inr (n, r)) = other q (NoLink k) (λ c. omega arith) (err (NoLink k) r)
    fails q (OneGroup b) refused accepted err ok (inl (lt, a)) = ok a
    fails q (OneGroup b) refused accepted err ok (inr (n, r)) = other q (NoGroup b) (λ c. omega arith) (err (NoGroup b) r)

    pub trace_fits : (f : Failure) (q : Result (ℕ × ℕ) PlannerFault) → TraceAnswer m s u f buffer q buffer' → NotFull q
    trace_fits f q = reads q (λ f. (q ≡ Err f) × (buffer' ≡ buffer)) _ (λ e r. r.0) (λ t g st lt G. fails q f (λ f. (q ≡ Err f) × (buffer' ≡ buffer)) _ (λ e r. r.0) (λ (ks, w, T, V, F).
        let (hs, H) = guarantee_held m M s N R t u st lt g G in
        let short = traced_short m (in_service s) (service_limits s N) t (failed (in_service s) f) u ks hs lt T H in
        fits q ks (length buffer) (λ f. (q ≡ Err f) × (buffer' ≡ buffer)) _ (omega (arith, short)) (λ a. answered q _ a.0) F))
