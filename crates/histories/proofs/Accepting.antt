-- A reading call is accepted just where its questions after the list of calls ask it.
use Rattle.std.proofs.Common.{◌≡◌, ℕ, ◌+◌, ◌<◌, ◌≤◌, Bool, true, ◌↔◌, List, [], ◌∷◌, length, is_ok, Ok, Err, Result, sym, ap, ◌∙◌, subst, inl, inr, arith}
use Rattle.definitions.specs.declared.Link.{Link}
use Rattle.definitions.specs.declared.Failure.{Failure}
use Rattle.definitions.specs.declared.Failure.TheVariants.{Nothing, OneLink, OneGroup}
use Rattle.definitions.specs.Networks.{Net, Holds, Limits, risks, at_risk, failed}
use Rattle.definitions.specs.Measures.{Scale, Laws}
use Rattle.definitions.specs.Routes.{RouteValue, Next, Held}
use Rattle.definitions.specs.Plans.{plain, worst, Backup, Traced, arrived, onward, turned}
use Rattle.definitions.proofs.Layers.{without_limits, same_link}
use Rattle.definitions.proofs.Following.{held_one, next_one, next_away}
use Rattle.definitions.proofs.Short.{held_short}
use Rattle.definitions.proofs.Tracing.{backup_one, traced_one}
use Rattle.histories.specs.declared.fault.PlannerFault.{PlannerFault}
use Rattle.histories.specs.declared.call.Event.{Event}
use Rattle.histories.specs.declared.call.Call.TheVariants as call
use Rattle.histories.specs.Questions.{Moves, Fails, Fits}
use Rattle.histories.specs.State.{State, marked, in_service, Stands}
use Rattle.routes.specs.Walks.{written}
use Rattle.histories.specs.Answers.{GuaranteeAnswer, NextAnswer, RouteAnswer, BackupAnswer, TraceAnswer}
use Rattle.histories.specs.Histories.{After, Accepted, Standing}
use Rattle.histories.proofs.Plain.{apart}
use Rattle.routes.proofs.Leading.{some_one}
use Rattle.histories.proofs.Promises.{guarantee_held}
use Rattle.histories.proofs.History.{reads_accepted, after_right}

-- A backup has fewer places than there are nodes, and a trace has fewer than 512.
module _ (m : Scale) (net : Net) (N : Limits net) (t : ℕ) where
  pub backup_short : (k : ℕ) (ks : List ℕ) → Backup m net t k ks → length ks ≤ 255
  backup_short k ks (l, h, H) =
      let lt = held_short (plain m) (at_risk k net) (without_limits (risks net k) net N) t l.tail ks H (N.sound k l h).0 in
      omega (arith, N.few_nodes)

  traced_more : (fails : ℕ → Bool) (u : ℕ) (ks hs : List ℕ) → Traced m net t fails u ks → Held (worst m net t) net t u hs → length ks ≤ length hs + 255
  traced_more fails u ks hs (arrived p) H = omega arith
  traced_more fails u ks [] (onward {k = k} {l = l} K e T) p = absurd (next_away (worst m net t) net t u k l K p)
  traced_more fails u ks (j ∷ hs) (onward {k = k} {l = l} {ks = js} K e T) (i, J, H) =
      let q = next_one (worst m net t) net t u k j l i K J in
      let z = same_link net k l i K.holds (subst (λ x. Holds net x i) (sym q) J.holds) in
      let le = traced_more fails l.head js hs T (subst (λ x. Held (worst m net t) net t x.head hs) (sym z) H) in
      omega arith
  traced_more fails u ks hs (turned {k = k} K e B) H = let le = backup_short k ks B in omega arith

  pub traced_short : (fails : ℕ → Bool) (u : ℕ) (ks hs : List ℕ) → u < net.nodes → Traced m net t fails u ks → Held (worst m net t) net t u hs → length ks ≤ 511
  traced_short fails u ks hs lt T H =
      let short = held_short (worst m net t) net N t u hs H lt in
      let le = traced_more fails u ks hs T H in
      omega (arith, N.few_nodes)

module _ (m : Scale) (M : Laws m) (s : State) (N : Limits s.net) (u : ℕ) where
  one : (x y : ℕ) → Stands s x → Stands s y → x ≡ y
  one x y p q = some_one x y (sym p ∙ q)

  limits : Limits (in_service s)
  limits = without_limits (marked s.marks) s.net N

  pub accept_guarantee : (r : Result ℕ PlannerFault) → GuaranteeAnswer m s u r → (h : List Event) → After m s.net h s →
      (is_ok r ≡ true) ↔ Accepted m s.net h (marked s.marks) (call.Guarantee u)
  accept_guarantee r A h a =
      reads_accepted m (in_service s) (Stands s) (Standing h) u (λ f. r ≡ Err f) (λ t g. r ≡ Ok g) (is_ok r) (λ t. Unit {0}) a.standing one (λ f e. ap is_ok e)
      (λ t g st lt G e. (λ _. tt, λ _. ap is_ok e)) A

  pub accept_next : (r : Result ℕ PlannerFault) → NextAnswer m s u r → (h : List Event) → After m s.net h s →
      (is_ok r ≡ true) ↔ Accepted m s.net h (marked s.marks) (call.Next u)
  accept_next r A h a =
      reads_accepted m (in_service s) (Stands s) (Standing h) u (λ f. r ≡ Err f)
      (λ t g. Moves u t (λ f. r ≡ Err f) ((k : ℕ) × (l : Link) × Next (worst m (in_service s) t) (in_service s) t u k l × (r ≡ Ok k))) (is_ok r)
      (λ t. Moves u t (λ f. ⊥) ((k : ℕ) × (l : Link) × Next (worst m (in_service s) t) (in_service s) t u k l × Unit {0})) a.standing one (λ f e. ap is_ok e)
      (λ t g st lt G x. here t x) A
    where
      here : (t : ℕ) → Moves u t (λ f. r ≡ Err f) ((k : ℕ) × (l : Link) × Next (worst m (in_service s) t) (in_service s) t u k l × (r ≡ Ok k)) →
          (is_ok r ≡ true) ↔ Moves u t (λ f. ⊥) ((k : ℕ) × (l : Link) × Next (worst m (in_service s) t) (in_service s) t u k l × Unit {0})
      here t (inl (ne, (k, l, K, e))) = (λ _. inl (ne, (k, l, K, tt)), λ _. ap is_ok e)
      here t (inr (eq, e)) = (λ x. absurd (apart (sym x ∙ ap is_ok e)), λ x. elim x [ inl (ne, _) ↦ absurd (eq ne) | inr (_, z) ↦ absurd z ])

  -- For places as few as any answer has, the buffer and the room are as good as each other.
  module _ (buffer buffer' : List ℕ) (room : ℕ) (size : (ks : List ℕ) → length ks ≤ 511 → (length ks ≤ room) ↔ (length ks ≤ length buffer)) where
    -- whether the places fit, as asked of the buffer and of the room
    fitting : {X : Type 0} (r : Result X PlannerFault) (P : List ℕ → Type 0) (yes_way : List ℕ → Type 0) → ((ks : List ℕ) → yes_way ks → is_ok r ≡ true) → ((ks js : List ℕ) → P ks → P js → ks ≡ js) →
        (ks : List ℕ) → P ks → length ks ≤ 511 → Fits ks (length buffer) (λ f. (r ≡ Err f) × (buffer' ≡ buffer)) (yes_way ks) →
        ((is_ok r ≡ true → Fits ks room (λ f. ⊥) (Unit {0})) × ((js : List ℕ) → P js → Fits js room (λ f. ⊥) (Unit {0}) → is_ok r ≡ true))
    fitting r P yes_way good same ks p lt (inl (le, y)) = (λ _. inl ((size ks lt).1 le, tt), λ js q x. good ks y)
    fitting r P yes_way good same ks p lt (inr (out, (e, _))) = (
      λ x. absurd (apart (sym x ∙ ap is_ok e)),
      λ js q x. elim x [ inl (le, _) ↦ absurd (out ((size ks lt).0 (subst (λ y. length y ≤ room) (sym (same ks js p q)) le))) | inr (_, z) ↦ absurd z ],
    )

    pub accept_route : (r : Result ℕ PlannerFault) → RouteAnswer m s u buffer r buffer' → (h : List Event) → After m s.net h s →
        (is_ok r ≡ true) ↔ Accepted m s.net h (marked s.marks) (call.Route u room)
    accept_route r A h a =
        reads_accepted m (in_service s) (Stands s) (Standing h) u (λ f. (r ≡ Err f) × (buffer' ≡ buffer))
        (λ t g. (ks : List ℕ) × Held (worst m (in_service s) t) (in_service s) t u ks × Fits ks (length buffer) (λ f. (r ≡ Err f) × (buffer' ≡ buffer)) ((r ≡ Ok (length ks)) × (buffer' ≡ written ks buffer))) (is_ok r)
        (λ t. (ks : List ℕ) × Held (worst m (in_service s) t) (in_service s) t u ks × Fits ks room (λ f. ⊥) (Unit {0})) a.standing one (λ f e. ap is_ok e.0)
        (λ t g st lt G (ks, H, F).
        let short = held_short (worst m (in_service s) t) (in_service s) limits t u ks H lt in
        let both = fitting r (Held (worst m (in_service s) t) (in_service s) t u) (λ ks. (r ≡ Ok (length ks)) × (buffer' ≡ written ks buffer)) (λ ks y. ap is_ok y.0)
        (λ x y p q. held_one (worst m (in_service s) t) (in_service s) t u x y p q) ks H (omega (arith, limits.few_nodes)) F in
        (λ x. (ks, H, both.0 x), λ (js, J, x). both.1 js J x)) A

    pub accept_backup : (r : Result ℕ PlannerFault) → BackupAnswer m s u buffer r buffer' → (h : List Event) → After m s.net h s →
        (is_ok r ≡ true) ↔ Accepted m s.net h (marked s.marks) (call.Backup u room)
    accept_backup r A h a =
        reads_accepted m (in_service s) (Stands s) (Standing h) u (λ f. (r ≡ Err f) × (buffer' ≡ buffer))
        (λ t g. Moves u t (λ f. (r ≡ Err f) × (buffer' ≡ buffer)) ((k : ℕ) × (l : Link) × (ks : List ℕ) × Next (worst m (in_service s) t) (in_service s) t u k l × Backup m (in_service s) t k ks ×
        Fits ks (length buffer) (λ f. (r ≡ Err f) × (buffer' ≡ buffer)) ((r ≡ Ok (length ks)) × (buffer' ≡ written ks buffer)))) (is_ok r)
        (λ t. Moves u t (λ f. ⊥) ((k : ℕ) × (l : Link) × (ks : List ℕ) × Next (worst m (in_service s) t) (in_service s) t u k l × Backup m (in_service s) t k ks × Fits ks room (λ f. ⊥) (Unit {0})))
        a.standing one (λ f e. ap is_ok e.0) (λ t g st lt G x. here t x) A
      where
        here : (t : ℕ) → Moves u t (λ f. (r ≡ Err f) × (buffer' ≡ buffer)) ((k : ℕ) × (l : Link) × (ks : List ℕ) × Next (worst m (in_service s) t) (in_service s) t u k l × Backup m (in_service s) t k ks ×
            Fits ks (length buffer) (λ f. (r ≡ Err f) × (buffer' ≡ buffer)) ((r ≡ Ok (length ks)) × (buffer' ≡ written ks buffer))) →
            (is_ok r ≡ true) ↔ Moves u t (λ f. ⊥) ((k : ℕ) × (l : Link) × (ks : List ℕ) × Next (worst m (in_service s) t) (in_service s) t u k l × Backup m (in_service s) t k ks × Fits ks room (λ f. ⊥) (Unit {0}))
        here t (inr (eq, (e, _))) = (λ x. absurd (apart (sym x ∙ ap is_ok e)), λ x. elim x [ inl (ne, _) ↦ absurd (eq ne) | inr (_, z) ↦ absurd z ])
        here t (inl (ne, (k, l, ks, K, B, F))) =
            let le = backup_short m (in_service s) limits t k ks B in
            let both = fitting r (Backup m (in_service s) t k) (λ ks. (r ≡ Ok (length ks)) × (buffer' ≡ written ks buffer)) (λ ks y. ap is_ok y.0)
            (λ x y p q. backup_one m (in_service s) t k x y p q) ks B (omega arith) F in (
              λ x. inl (ne, (k, l, ks, K, B, both.0 x)),
              λ x. elim x [
                | inl (_, (j, i, js, J, C, y)) ↦ both.1 js (subst (λ z. Backup m (in_service s) t z js) (next_one (worst m (in_service s) t) (in_service s) t u j k i l J K) C) y
                | inr (_, z) ↦ absurd z
              ],
            )

    module _ (f : Failure) (r : Result (ℕ × ℕ) PlannerFault) where
      abbrev Refusing : PlannerFault → Type 0
      Refusing e = (r ≡ Err e) × (buffer' ≡ buffer)

      abbrev Tracing : ℕ → Type 0
      Tracing t = (ks : List ℕ) × (w : ℕ) × Traced m (in_service s) t (failed (in_service s) f) u ks × RouteValue (plain m) (in_service s) t u ks w ×
          Fits ks (length buffer) Refusing ((r ≡ Ok (w, length ks)) × (buffer' ≡ written ks buffer))

      abbrev Traceable : ℕ → Type 0
      Traceable t = (ks : List ℕ) × (w : ℕ) × Traced m (in_service s) t (failed (in_service s) f) u ks × RouteValue (plain m) (in_service s) t u ks w × Fits ks room (λ e. ⊥) (Unit {0})

      went : (t : ℕ) (hs : List ℕ) → Held (worst m (in_service s) t) (in_service s) t u hs → u < s.net.nodes → Tracing t → (is_ok r ≡ true) ↔ Traceable t
      went t hs H lt (ks, w, T, W, F) =
          let short = traced_short m (in_service s) limits t (failed (in_service s) f) u ks hs lt T H in
          let both = fitting r (Traced m (in_service s) t (failed (in_service s) f) u) (λ ks. (r ≡ Ok (w, length ks)) × (buffer' ≡ written ks buffer)) (λ ks y. ap is_ok y.0)
          (λ x y p q. traced_one m (in_service s) t (failed (in_service s) f) u x y p q) ks T short F in
          (λ x. (ks, w, T, W, both.0 x), λ (js, v, S, V, x). both.1 js S x)

      here : (t : ℕ) → (Tracing t → (is_ok r ≡ true) ↔ Traceable t) → (x : Failure) → Fails s.net x Refusing (Tracing t) → (is_ok r ≡ true) ↔ Fails s.net x (λ e. ⊥) (Traceable t)
      here t on Nothing T = on T
      here t on (OneLink k) (inr (none, (e, _))) = (λ x. absurd (apart (sym x ∙ ap is_ok e)), λ x. elim x [ inl (l, hl, _) ↦ absurd (none l hl) | inr (_, z) ↦ absurd z ])
      here t on (OneLink k) (inl (l, hl, T)) = (λ x. inl (l, hl, (on T).0 x), λ x. elim x [ inl (i, hi, y) ↦ (on T).1 y | inr (_, z) ↦ absurd z ])
      here t on (OneGroup b) (inr (none, (e, _))) = (λ x. absurd (apart (sym x ∙ ap is_ok e)), λ x. elim x [ inl (lt, _) ↦ absurd (none lt) | inr (_, z) ↦ absurd z ])
      here t on (OneGroup b) (inl (lt, T)) = (λ x. inl (lt, (on T).0 x), λ x. elim x [ inl (_, y) ↦ (on T).1 y | inr (_, z) ↦ absurd z ])

      pub accept_trace : TraceAnswer m s u f buffer r buffer' → (h : List Event) → After m s.net h s →
          (is_ok r ≡ true) ↔ Accepted m s.net h (marked s.marks) (call.Trace u f room)
      accept_trace A h a =
          let right = after_right m s.net h s a in
          reads_accepted m (in_service s) (Stands s) (Standing h) u Refusing
          (λ t g. Fails s.net f Refusing (Tracing t)) (is_ok r)
          (λ t. Fails s.net f (λ e. ⊥) (Traceable t)) a.standing one (λ f e. ap is_ok e.0)
          (λ t g st lt G x. let (hs, H) = guarantee_held m M s N right t u st lt g G in here t (went t hs H lt) f x) A
