-- What one call adds to a list of calls.
use Rattle.std.proofs.Common.{◌≡◌, ℕ, ◌<◌, Bool, true, false, ◌≢◌, ◌↔◌, List, [], ◌∷◌, length, set, is_ok, Some, None, Option, Result, sym, refl, ap, ◌∙◌, subst, inl, inr, arith, get_or-set_other, get_or-set_same}
use mathlib.Core.Path.{fun_ext}
use native.Mathlib.Decide.{ℕ_discrete}
use Rattle.definitions.specs.declared.Link.{Link}
use Rattle.definitions.specs.Networks.{Net, Holds, without}
use Rattle.definitions.specs.Measures.{Scale}
use Rattle.definitions.specs.Plans.{Guarantee}
use Rattle.histories.specs.declared.fault.PlannerFault.{PlannerFault}
use Rattle.histories.specs.declared.call.Event.{Event}
use Rattle.histories.specs.declared.call.Call.{Call}
use Rattle.histories.specs.declared.call.Call.TheVariants as call
use Rattle.histories.specs.Questions.{Reads}
use Rattle.histories.specs.State.{State, marked, in_service, Stands, remarked, Opened, PlanRight, Right}
use Rattle.histories.specs.Answers.{WithdrawAnswer, RestoreAnswer, PlanAnswer, Replanned}
use Rattle.histories.specs.Histories.{Latest, newest, before, Names, Changes, Withdrawn, Marks, After, Accepted, Follows, AfterAnyCalls}
use Rattle.histories.proofs.Plain.{apart}
use Rattle.routes.proofs.Leading.{some_one}

-- a call that P does not pick, or that is refused, leaves the latest as it was
skip : {P : Call → Type 0} {c : Call} {h : List Event} (e : Event) → (P e.call → e.accepted ≡ true → ⊥) → Latest P c (e ∷ h) → Latest P c h
skip {P} e passed (newest e' same accepted picked) = absurd (passed (subst P (sym same) picked) accepted)
skip {P} e passed (before e' other l) = l

skips : {P : Call → Type 0} {c : Call} {h : List Event} (e : Event) → (P e.call → e.accepted ≡ true → ⊥) → Latest P c h ↔ Latest P c (e ∷ h)
skips e passed = (before e passed, skip e passed)

-- an accepted call that P picks is the latest
is_latest : {P : Call → Type 0} {c : Call} {h : List Event} (e : Event) → P e.call → e.accepted ≡ true → Latest P c (e ∷ h) → e.call ≡ c
is_latest e picked accepted (newest e' same accepts p) = same
is_latest e picked accepted (before e' other l) = absurd (other picked accepted)

nothing : {P : Call → Type 0} {c : Call} {X : Type 0} → Latest P c [] → X
nothing l = elim l [ ]

pub then : {A B C : Type 0} → A ↔ B → B ↔ C → A ↔ C
then f g = (λ a. g.0 (f.0 a), λ c. f.1 (g.1 c))

same_bool : (a b : Bool) → (a ≡ true) ↔ (b ≡ true) → a ≡ b
same_bool true b e = sym (e.0 refl)
same_bool false true e = e.1 refl
same_bool false false e = refl

pub same_marks : (h : List Event) (w w' : ℕ → Bool) → Marks h w → Marks h w' → w ≡ w'
same_marks h w w' p q = fun_ext (λ k. same_bool (w k) (w' k) (λ x. (q k).1 ((p k).0 x), λ x. (p k).1 ((q k).0 x)))

plan_apart_withdraw : (k t : ℕ) → call.Withdraw k ≡ call.Plan t → ⊥
plan_apart_withdraw k t e = let z : ◌≡◌ {A = ℕ} 0 1 = cc in omega arith

plan_apart_restore : (k t : ℕ) → call.Restore k ≡ call.Plan t → ⊥
plan_apart_restore k t e = let z : ◌≡◌ {A = ℕ} 0 1 = cc in omega arith

restore_apart_withdraw : (k j : ℕ) → call.Restore k ≡ call.Withdraw j → ⊥
restore_apart_withdraw k j e = let z : ◌≡◌ {A = ℕ} 0 1 = cc in omega arith

none_apart : (t : ℕ) → ◌≡◌ {A = Option ℕ} None (Some t) → ⊥
none_apart t e = let z : ◌≡◌ {A = ℕ} 0 1 = cc in omega arith

same_plan : (t t' : ℕ) → call.Plan t ≡ call.Plan t' → t ≡ t'
same_plan t t' e = cc

mark_here : (ms : List Bool) (k : ℕ) (b : Bool) → k < length ms → marked (set ms k b) k ≡ b
mark_here ms k b h = rw get_or-set_same

mark_there : (ms : List Bool) (k j : ℕ) (b : Bool) → j ≢ k → marked (set ms k b) j ≡ marked ms j
mark_there ms k j b d = rw get_or-set_other

module _ (m : Scale) (n : Net) where
  -- a refused call, or one that only reads
  pub passes : (h : List Event) (c : Call) (r : Bool) (s s' : State) → s' ≡ s
      → ((k : ℕ) → Names k c → r ≡ true → ⊥) → (Changes c → r ≡ true → ⊥)
      → After m n h s → After m n (record { call = c; accepted = r } ∷ h) s'
  passes h c r s s' same names changes a = subst (After m n (record { call = c; accepted = r } ∷ h)) (sym same) (record {
    net = a.net;
    marks = λ k. then (a.marks k) (skips (record { call = c; accepted = r }) (names k));
    standing = λ t. then (a.standing t) (skips (record { call = c; accepted = r }) changes);
    right = a.right;
  })

  withdrawn : (h : List Event) (k : ℕ) (s s' : State) → s' ≡ remarked s k true → k < length s.marks
      → After m n h s → After m n (record { call = call.Withdraw k; accepted = true } ∷ h) s'
  withdrawn h k s s' same lt a = subst (After m n (record { call = call.Withdraw k; accepted = true } ∷ h)) (sym same) (record {
    net = a.net;
    marks = λ j. elim (ℕ_discrete j k) [
      | yes e ↦ (let P : ℕ → Type 0 = λ i. (marked (set s.marks k true) i ≡ true) ↔ Withdrawn (record { call = call.Withdraw k; accepted = true } ∷ h) i in
          subst P (sym e) (λ _. newest _ refl refl refl, λ _. mark_here s.marks k true lt))
      | no d ↦ then (then (λ x. sym (mark_there s.marks k j true d) ∙ x, λ x. mark_there s.marks k j true d ∙ x) (a.marks j)) (skips _ (λ x y. d (sym x)))
    ];
    standing = λ t. (λ x. absurd (none_apart t x), λ l. absurd (plan_apart_withdraw k t (is_latest _ tt refl l)));
    right = tt;
  })

  restored : (h : List Event) (k : ℕ) (s s' : State) → s' ≡ remarked s k false → k < length s.marks
      → After m n h s → After m n (record { call = call.Restore k; accepted = true } ∷ h) s'
  restored h k s s' same lt a = subst (After m n (record { call = call.Restore k; accepted = true } ∷ h)) (sym same) (record {
    net = a.net;
    marks = λ j. elim (ℕ_discrete j k) [
      | yes e ↦ (let P : ℕ → Type 0 = λ i. (marked (set s.marks k false) i ≡ true) ↔ Withdrawn (record { call = call.Restore k; accepted = true } ∷ h) i in
          subst P (sym e) (λ x. absurd (apart (sym x ∙ mark_here s.marks k false lt)), λ l. absurd (restore_apart_withdraw k k (is_latest _ refl refl l))))
      | no d ↦ then (then (λ x. sym (mark_there s.marks k j false d) ∙ x, λ x. mark_there s.marks k j false d ∙ x) (a.marks j)) (skips _ (λ x y. d (sym x)))
    ];
    standing = λ t. (λ x. absurd (none_apart t x), λ l. absurd (plan_apart_restore k t (is_latest _ tt refl l)));
    right = tt;
  })

  planned : (h : List Event) (t c : ℕ) (s s' : State) → Replanned m s s' t c
      → After m n h s → After m n (record { call = call.Plan t; accepted = true } ∷ h) s'
  planned h t c s s' p a = record {
    net = p.net ∙ a.net;
    marks = λ k. then (then (λ x. ap (λ ms. marked ms k) (sym p.marks) ∙ x, λ x. ap (λ ms. marked ms k) p.marks ∙ x) (a.marks k)) (skips _ (λ x y. x));
    standing = λ t'. (
      λ x. newest _ (ap call.Plan (some_one t t' (sym p.standing ∙ x))) refl tt,
      λ l. p.standing ∙ ap Some (same_plan t t' (is_latest _ tt refl l)),
    );
    right =
        let there : PlanRight m (without (marked s.marks) n) (Some t) s'.records = subst (λ y. PlanRight m (without (marked s.marks) y) (Some t) s'.records) a.net p.right in
        let marks : PlanRight m (without (marked s'.marks) n) (Some t) s'.records = subst (λ ms. PlanRight m (without (marked ms) n) (Some t) s'.records) (sym p.marks) there in
        subst (λ o. PlanRight m (without (marked s'.marks) n) o s'.records) (sym p.standing) marks;
  }

  pub opened : (s : State) → Opened n s → After m n [] s
  opened s o = record {
    net = o.net;
    marks = λ k. (λ x. absurd (apart (sym x ∙ o.in_service k)), λ l. nothing l);
    standing = λ t. (λ x. absurd (none_apart t (sym o.no_plan ∙ x)), λ l. nothing l);
    right = subst (λ y. PlanRight m (without (marked s.marks) n) y s.records) (sym o.no_plan) tt;
  }

-- what is known of a call c, answered by b, that takes a planner from s to s'
abbrev pub Told : Scale → Net → State → Call → Bool → State → Type 0
Told m n s c b s' = (h : List Event) → After m n h s → After m n (record { call = c; accepted = b } ∷ h) s' × ((w : ℕ → Bool) → Marks h w → (b ≡ true) ↔ Accepted m n h w c)

pub follows : (m : Scale) (s : State) (c : Call) (b : Bool) (s' : State) → Told m s.net s c b s' → Follows m s c b s'
follows m s c b s' told n h a =
    let P : Net → Type 0 = λ y. After m y h s → After m y (record { call = c; accepted = b } ∷ h) s' × ((w : ℕ → Bool) → Marks h w → (b ≡ true) ↔ Accepted m y h w c) in
    subst P a.net (told h) a

module _ (m : Scale) where
  -- refused, with nothing changed
  refused_told : (s s' : State) (c : Call) (h : List Event) → s' ≡ s → ((w : ℕ → Bool) → Marks h w → Accepted m s.net h w c → ⊥) → After m s.net h s →
      After m s.net (record { call = c; accepted = false } ∷ h) s' × ((w : ℕ → Bool) → Marks h w → (false ≡ true) ↔ Accepted m s.net h w c)
  refused_told s s' c h same none a = (passes m s.net h c false s s' same (λ j x y. apart (sym y)) (λ x y. apart (sym y)) a, λ w mk. (λ x. absurd (apart (sym x)), λ x. absurd (none w mk x)))

  pub withdraw_told : (k : ℕ) (s s' : State) (r : Result (Unit {0}) PlannerFault) → ((l : Link) → Holds s.net k l → k < length s.marks)
      → WithdrawAnswer s k r s' → Told m s.net s (call.Withdraw k) (is_ok r) s'
  withdraw_told k s s' r room (inr (none, (e, same))) h a =
      subst (λ b. After m s.net (record { call = call.Withdraw k; accepted = b } ∷ h) s' × ((w : ℕ → Bool) → Marks h w → (b ≡ true) ↔ Accepted m s.net h w (call.Withdraw k))) (sym (ap is_ok e))
      (refused_told s s' (call.Withdraw k) h same (λ w mk x. elim x [ inl (l, hl, _) ↦ none l hl | inr (_, z) ↦ z ]) a)
  withdraw_told k s s' r room (inl (l, hl, inr (out, (e, same)))) h a =
      subst (λ b. After m s.net (record { call = call.Withdraw k; accepted = b } ∷ h) s' × ((w : ℕ → Bool) → Marks h w → (b ≡ true) ↔ Accepted m s.net h w (call.Withdraw k))) (sym (ap is_ok e))
      (refused_told s s' (call.Withdraw k) h same (λ w mk x. elim x [ inl (i, hi, inl (free, _)) ↦ out (λ y. free ((a.marks k).0 y)) | inl (i, hi, inr (_, z)) ↦ z | inr (_, z) ↦ z ]) a)
  withdraw_told k s s' r room (inl (l, hl, inl (free, (e, same)))) h a =
      subst (λ b. After m s.net (record { call = call.Withdraw k; accepted = b } ∷ h) s' × ((w : ℕ → Bool) → Marks h w → (b ≡ true) ↔ Accepted m s.net h w (call.Withdraw k))) (sym (ap is_ok e))
      (withdrawn m s.net h k s s' same (room l hl) a, λ w mk. (λ x. inl (l, hl, inl ((λ y. free ((a.marks k).1 y)), tt)), λ x. refl))

  pub restore_told : (k : ℕ) (s s' : State) (r : Result (Unit {0}) PlannerFault) → ((l : Link) → Holds s.net k l → k < length s.marks)
      → RestoreAnswer s k r s' → Told m s.net s (call.Restore k) (is_ok r) s'
  restore_told k s s' r room (inr (none, (e, same))) h a =
      subst (λ b. After m s.net (record { call = call.Restore k; accepted = b } ∷ h) s' × ((w : ℕ → Bool) → Marks h w → (b ≡ true) ↔ Accepted m s.net h w (call.Restore k))) (sym (ap is_ok e))
      (refused_told s s' (call.Restore k) h same (λ w mk x. elim x [ inl (l, hl, _) ↦ none l hl | inr (_, z) ↦ z ]) a)
  restore_told k s s' r room (inl (l, hl, inr (free, (e, same)))) h a =
      subst (λ b. After m s.net (record { call = call.Restore k; accepted = b } ∷ h) s' × ((w : ℕ → Bool) → Marks h w → (b ≡ true) ↔ Accepted m s.net h w (call.Restore k))) (sym (ap is_ok e))
      (refused_told s s' (call.Restore k) h same (λ w mk x. elim x [ inl (i, hi, inl (out, _)) ↦ free ((a.marks k).1 out) | inl (i, hi, inr (_, z)) ↦ z | inr (_, z) ↦ z ]) a)
  restore_told k s s' r room (inl (l, hl, inl (out, (e, same)))) h a =
      subst (λ b. After m s.net (record { call = call.Restore k; accepted = b } ∷ h) s' × ((w : ℕ → Bool) → Marks h w → (b ≡ true) ↔ Accepted m s.net h w (call.Restore k))) (sym (ap is_ok e))
      (restored m s.net h k s s' same (room l hl) a, λ w mk. (λ x. inl (l, hl, inl ((a.marks k).0 out, tt)), λ x. refl))

  pub plan_told : (t : ℕ) (s s' : State) (r : Result ℕ PlannerFault) → PlanAnswer m s t r s' → Told m s.net s (call.Plan t) (is_ok r) s'
  plan_told t s s' r (inr (out, (e, same))) h a =
      subst (λ b. After m s.net (record { call = call.Plan t; accepted = b } ∷ h) s' × ((w : ℕ → Bool) → Marks h w → (b ≡ true) ↔ Accepted m s.net h w (call.Plan t))) (sym (ap is_ok e))
      (refused_told s s' (call.Plan t) h same (λ w mk x. elim x [ inl (lt, _) ↦ out lt | inr (_, z) ↦ z ]) a)
  plan_told t s s' r (inl (lt, (c, e, p))) h a =
      subst (λ b. After m s.net (record { call = call.Plan t; accepted = b } ∷ h) s' × ((w : ℕ → Bool) → Marks h w → (b ≡ true) ↔ Accepted m s.net h w (call.Plan t))) (sym (ap is_ok e))
      (planned m s.net h t c s s' p a, λ w mk. (λ x. inl (lt, tt), λ x. refl))

  -- a call that only reads
  pub read_told : (s : State) (c : Call) (b : Bool) → ((k : ℕ) → Names k c → ⊥) → (Changes c → ⊥) →
      ((h : List Event) → After m s.net h s → (b ≡ true) ↔ Accepted m s.net h (marked s.marks) c) → Told m s.net s c b s
  read_told s c b names changes accepts h a = (
    passes m s.net h c b s s refl (λ k x y. names k x) (λ x y. changes x) a,
    λ w mk. subst (λ y. (b ≡ true) ↔ Accepted m s.net h y c) (same_marks h _ w a.marks mk) (accepts h a),
  )

  -- The questions of a reading call, put to the state and to the list of calls, have one outcome.
  pub reads_accepted : (net : Net) (stands stands' : ℕ → Type 0) (u : ℕ) (refused : PlannerFault → Type 0) (accepted : ℕ → ℕ → Type 0) (b : Bool) (accepted' : ℕ → Type 0) →
      ((t : ℕ) → stands t ↔ stands' t) → ((x y : ℕ) → stands x → stands y → x ≡ y) → ((f : PlannerFault) → refused f → b ≡ false) →
      ((t g : ℕ) → stands t → u < net.nodes → Guarantee m net t u g → accepted t g → (b ≡ true) ↔ accepted' t) →
      Reads m net stands u refused accepted → (b ≡ true) ↔ Reads m net stands' u (λ f. ⊥) (λ t g. accepted' t)
  reads_accepted net stands stands' u refused accepted b accepted' iff one no_way here A = (to A, back A)
    where
      to : Reads m net stands u refused accepted → b ≡ true → Reads m net stands' u (λ f. ⊥) (λ t g. accepted' t)
      to (inr (_, r)) e = absurd (apart (sym e ∙ no_way _ r))
      to (inl (t, st, inr (_, r))) e = absurd (apart (sym e ∙ no_way _ r))
      to (inl (t, st, inl (lt, inr (_, r)))) e = absurd (apart (sym e ∙ no_way _ r))
      to (inl (t, st, inl (lt, inl (g, G, x)))) e = inl (t, (iff t).0 st, inl (lt, inl (g, G, (here t g st lt G x).0 e)))

      back : Reads m net stands u refused accepted → Reads m net stands' u (λ f. ⊥) (λ t g. accepted' t) → b ≡ true
      back A (inr (_, z)) = absurd z
      back A (inl (x, sx, inr (_, z))) = absurd z
      back A (inl (x, sx, inl (lx, inr (_, z)))) = absurd z
      back (inr (none, _)) (inl (x, sx, inl (lx, inl (i, I, y)))) = absurd (none x ((iff x).1 sx))
      back (inl (t, st, inr (out, _))) (inl (x, sx, inl (lx, inl (i, I, y)))) = absurd (out lx)
      back (inl (t, st, inl (lt, inr (none, _)))) (inl (x, sx, inl (lx, inl (i, I, y)))) = absurd (none i (subst (λ z. Guarantee m net z u i) (one x t ((iff x).1 sx) st) I))
      back (inl (t, st, inl (lt, inl (g, G, a)))) (inl (x, sx, inl (lx, inl (i, I, y)))) = (here t g st lt G a).1 (subst accepted' (one x t ((iff x).1 sx) st) y)

-- the records are right in the state's own network
pub after_right : (m : Scale) (n : Net) (h : List Event) (s : State) → After m n h s → Right m s
after_right m n h s a = subst (λ y. PlanRight m (without (marked s.marks) y) s.standing s.records) (sym a.net) a.right

-- what holds of a state that is right holds after any calls that led to it
pub any_calls : (m : Scale) (s : State) (P : Net → Net → ℕ → Type 0) → ((t : ℕ) → Right m s → Stands s t → P s.net (in_service s) t) → AfterAnyCalls m s P
any_calls m s P here n h a t st w mk =
    let there : P n (without (marked s.marks) n) t = subst (λ y. P y (without (marked s.marks) y) t) a.net (here t (after_right m n h s a) ((a.standing t).1 st)) in
    subst (λ f. P n (without f n) t) (same_marks h (marked s.marks) w a.marks mk) there

-- What the changing calls leave is right.
module _ (m : Scale) (s s' : State) (R : Right m s) where
  same_right : s' ≡ s → Right m s'
  same_right e = subst (Right m) (sym e) R

  unplanned_right : (k : ℕ) (b : Bool) → s' ≡ remarked s k b → Right m s'
  unplanned_right k b e = subst (Right m) (sym e) tt

  pub withdraw_right : (k : ℕ) (r : Result (Unit {0}) PlannerFault) → WithdrawAnswer s k r s' → Right m s'
  withdraw_right k r (inr (none, (e, same))) = same_right same
  withdraw_right k r (inl (l, hl, inr (out, (e, same)))) = same_right same
  withdraw_right k r (inl (l, hl, inl (free, (e, same)))) = unplanned_right k true same

  pub restore_right : (k : ℕ) (r : Result (Unit {0}) PlannerFault) → RestoreAnswer s k r s' → Right m s'
  restore_right k r (inr (none, (e, same))) = same_right same
  restore_right k r (inl (l, hl, inr (out, (e, same)))) = same_right same
  restore_right k r (inl (l, hl, inl (free, (e, same)))) = unplanned_right k false same

  pub plan_right : (t : ℕ) (r : Result ℕ PlannerFault) → PlanAnswer m s t r s' → Right m s'
  plan_right t r (inr (out, (e, same))) = same_right same
  plan_right t r (inl (lt, (c, e, p))) =
      let net : PlanRight m (without (marked s.marks) s'.net) (Some t) s'.records = subst (λ y. PlanRight m (without (marked s.marks) y) (Some t) s'.records) (sym p.net) p.right in
      let marks : PlanRight m (in_service s') (Some t) s'.records = subst (λ ms. PlanRight m (without (marked ms) s'.net) (Some t) s'.records) (sym p.marks) net in
      subst (λ o. PlanRight m (in_service s') o s'.records) (sym p.standing) marks
