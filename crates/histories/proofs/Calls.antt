-- What the reading calls answer, from what their parts answered.
use Rattle.std.proofs.Common.{◌≡◌, ℕ, ◌+◌, ◌<◌, ◌≤◌, Bool, true, false, cond, ltb, ◌⊎◌, List, [], ◌∷◌, ◌++◌, length, take, drop, Some, None, Ok, Err, Option, Result, sym, refl, ap, ◌∙◌, subst, ap₂, inl, inr, append_assoc, append-nil, zero-add, arith, length-append, length-take, take_at, drop_at, ltb-true, unwrap_or}
use Rattle.definitions.specs.declared.Link.{Link}
use Rattle.definitions.specs.declared.Failure.{Failure}
use Rattle.definitions.specs.declared.Failure.TheVariants.{Nothing, OneLink, OneGroup}
use Rattle.definitions.specs.Networks.{Limits, failed}
use Rattle.definitions.specs.Measures.{Scale, Laws}
use Rattle.definitions.specs.Routes.{Next, Held, RouteValue}
use Rattle.definitions.specs.Plans.{plain, worst, Guarantee, Backup, Traced, arrived, turned}
use Rattle.definitions.proofs.Lawfuls.{Value}
use Rattle.histories.specs.declared.call.Reading.{Reading}
use Rattle.histories.specs.declared.fault.PlannerFault.{PlannerFault}
use Rattle.histories.specs.declared.fault.PlannerFault.TheVariants.{NoPlan, NoNode, AtDestination, NoRoom}
use Rattle.routes.specs.Records.{Leads, value_of, next_of}
use Rattle.routes.specs.declared.walk.NoRoom.{NoRoom as Needed}
use Rattle.routes.specs.Walks.{links_of, plain_value, Spared, Blocked, Turned, RouteWritten, written}
use Rattle.histories.specs.Questions.{Asks, Moves, Fits, Fails}
use Rattle.histories.specs.State.{State, in_service, Right}
use Rattle.histories.specs.Answers.{GuaranteeAnswer, NextAnswer, RouteAnswer, BackupAnswer, TraceAnswer}
use Rattle.histories.specs.Parts.{read_answer, read_from, read_value, DetourAnswer, FailureAnswer}
use Rattle.histories.proofs.Plain.{ok_err, ok_one, err_one}
use Rattle.histories.proofs.Reading.{found, lawful, Known, service_limits, reading_refused, reading_accepted}
use Rattle.routes.proofs.Leading.{some_one, way, onwards}
use Rattle.routes.proofs.Walking.{value_computed, held_cut, traced_turn}
use Rattle.definitions.proofs.Fixpoint.{best_label}
use Rattle.definitions.proofs.Following.{next_one}
use Rattle.definitions.proofs.Short.{held_short}
use Rattle.definitions.proofs.Tracing.{traced_value}

-- a node that is read is one
pub node_read : (s : State) (u t g : ℕ) (r : Result Reading PlannerFault) → r ≡ read_answer s u → r ≡ Ok (found t g) → u < s.net.nodes
node_read s u t g r asked q = standing s.standing (sym asked ∙ q)
  where
    node : (x : ℕ) (b : Bool) → ltb u s.net.nodes ≡ b → cond b (read_value x u (value_of s.records u)) (Err (NoNode u)) ≡ Ok (found t g) → u < s.net.nodes
    node x true p e = ltb-true u s.net.nodes p
    node x false p e = absurd (ok_err _ (found t g) (NoNode u) e refl)

    standing : (o : Option ℕ) → read_from s o u ≡ Ok (found t g) → u < s.net.nodes
    standing None e = absurd (ok_err _ (found t g) NoPlan e refl)
    standing (Some x) e = node x (ltb u s.net.nodes) refl e

-- The held route of a node that is read, cut where the walk along it ends.
module _ (m : Scale) (M : Laws m) (s : State) (N : Limits s.net) (R : Right m s) (u : ℕ) (f : Failure) (t g v c : ℕ) (full : length s.records ≡ 256) (turn : Turned (in_service s) s.records t f u v c) (K : Known m M s N R u t g) where
  pub walked : (js : List ℕ) × (is : List ℕ) × Held (worst m (in_service s) t) (in_service s) t u (js ++ is) ×
      Leads (in_service s) (next_of s.records) v u js × (length js ≡ c) × Spared (in_service s) f js × ((v ≡ t) ⊎ Blocked (in_service s) f is)
  walked =
      let (ks, H, P, st) = way (worst m (in_service s) t) (in_service s) t Value (lawful m M s N R u t) s.records K.recorded u g K.label in
      let short = held_short (worst m (in_service s) t) (in_service s) (service_limits s N) t u ks H K.node in
      let (js, is, q, Q, z, S, e) = turn ks P (omega (arith, N.few_nodes)) in
      (js, is, subst (Held (worst m (in_service s) t) (in_service s) t u) (sym q) H, Q, z, S, e)

  -- elsewhere than at the destination it has a guarantee
  pub turn_label : (v ≡ t → ⊥) → (a : ℕ) × (value_of s.records v ≡ Some a)
  turn_label away = go walked
    where
      go : (js : List ℕ) × (is : List ℕ) × Held (worst m (in_service s) t) (in_service s) t u (js ++ is) ×
          Leads (in_service s) (next_of s.records) v u js × (length js ≡ c) × Spared (in_service s) f js × ((v ≡ t) ⊎ Blocked (in_service s) f is) →
          (a : ℕ) × (value_of s.records v ≡ Some a)
      go (js, is, H, P, z, S, inl e) = absurd (away e)
      go (js, [], H, P, z, S, inr b) = absurd b
      go (js, k ∷ is, H, P, z, S, inr b) =
          let (l, X, _) = held_cut (worst m (in_service s) t) (in_service s) (next_of s.records) t v u js (k ∷ is) H P in
          let own : Guarantee m (in_service s) t v X.tight.own = subst (λ y. Guarantee m (in_service s) t y X.tight.own) X.starts X.tight.best_own in
          (X.tight.own, best_label (worst m (in_service s) t) (in_service s) t Value (lawful m M s N R u t) (value_of s.records) K.recorded.labels v X.tight.own own)

module _ (m : Scale) (M : Laws m) (s : State) (N : Limits s.net) (R : Right m s) (u : ℕ) (r₀ : Result Reading PlannerFault) (asked : r₀ ≡ read_answer s u) where
  pub guarantee_refused : (r : Result ℕ PlannerFault) (e : PlannerFault) → r₀ ≡ Err e → r ≡ Err e → GuaranteeAnswer m s u r
  guarantee_refused r e q x = reading_refused m M s N R u r₀ e asked q (λ f. r ≡ Err f) (λ t g. r ≡ Ok g) x

  pub guarantee_answered : (r : Result ℕ PlannerFault) (t g : ℕ) → r₀ ≡ Ok (found t g) → r ≡ Ok g → GuaranteeAnswer m s u r
  guarantee_answered r t g q x = reading_accepted m M s N R u r₀ t g asked q (λ f. r ≡ Err f) (λ t g. r ≡ Ok g) (λ K. x)

  pub next_refused : (r : Result ℕ PlannerFault) (e : PlannerFault) → r₀ ≡ Err e → r ≡ Err e → NextAnswer m s u r
  next_refused r e q x = reading_refused m M s N R u r₀ e asked q (λ f. r ≡ Err f)
      (λ t g. Moves u t (λ f. r ≡ Err f) ((k : ℕ) × (l : Link) × Next (worst m (in_service s) t) (in_service s) t u k l × (r ≡ Ok k))) x

  pub next_at_destination : (r : Result ℕ PlannerFault) (t g : ℕ) → r₀ ≡ Ok (found t g) → u ≡ t → r ≡ Err (AtDestination u) → NextAnswer m s u r
  next_at_destination r t g q e x = reading_accepted m M s N R u r₀ t g asked q (λ f. r ≡ Err f)
      (λ t g. Moves u t (λ f. r ≡ Err f) ((k : ℕ) × (l : Link) × Next (worst m (in_service s) t) (in_service s) t u k l × (r ≡ Ok k))) (λ K. inr ((λ ne. ne e), x))

  pub next_answered : (r : Result ℕ PlannerFault) (t g : ℕ) → r₀ ≡ Ok (found t g) → (u ≡ t → ⊥) → (x : ℕ) → next_of s.records u ≡ Some x → r ≡ Ok x → NextAnswer m s u r
  next_answered r t g q ne x e y = reading_accepted m M s N R u r₀ t g asked q (λ f. r ≡ Err f)
      (λ t g. Moves u t (λ f. r ≡ Err f) ((k : ℕ) × (l : Link) × Next (worst m (in_service s) t) (in_service s) t u k l × (r ≡ Ok k))) (λ K.
      let (k, l, nx, X) = onwards (worst m (in_service s) t) (in_service s) t Value (lawful m M s N R u t) s.records K.recorded u g K.label ne in
      inl (ne, (k, l, X, y ∙ ap Ok (some_one x k (sym e ∙ nx)))))

  module _ (buffer buffer' : List ℕ) where
    module _ (r : Result ℕ PlannerFault) where
      abbrev Refusing : PlannerFault → Type 0
      Refusing f = (r ≡ Err f) × (buffer' ≡ buffer)

      abbrev Writing : List ℕ → Type 0
      Writing ks = (r ≡ Ok (length ks)) × (buffer' ≡ written ks buffer)

      abbrev Routing : ℕ → ℕ → Type 0
      Routing t g = (ks : List ℕ) × Held (worst m (in_service s) t) (in_service s) t u ks × Fits ks (length buffer) Refusing (Writing ks)

      pub route_refused : (e : PlannerFault) → r₀ ≡ Err e → r ≡ Err e → buffer' ≡ buffer → RouteAnswer m s u buffer r buffer'
      route_refused e q x y = reading_refused m M s N R u r₀ e asked q Refusing Routing (x, y)

      module _ (t g c : ℕ) (wr : Result ℕ Needed) (found : r₀ ≡ Ok (found t g)) (W : RouteWritten (in_service s) s.records u buffer wr buffer') where
        -- the held route, and its length as the records have it
        routing : ((ks : List ℕ) → Leads (in_service s) (next_of s.records) t u ks → links_of s.records u ≡ length ks → Fits ks (length buffer) Refusing (Writing ks)) → RouteAnswer m s u buffer r buffer'
        routing fits = reading_accepted m M s N R u r₀ t g asked found Refusing Routing (λ K.
            let (ks, H, P, st) = way (worst m (in_service s) t) (in_service s) t Value (lawful m M s N R u t) s.records K.recorded u g K.label in
            (ks, H, fits ks P (ap (λ o. unwrap_or o 0) st)))

        pub route_no_room : wr ≡ Err (record { needed = c }) → r ≡ Err (NoRoom c) → RouteAnswer m s u buffer r buffer'
        route_no_room e x = routing (λ ks P z. whole ks z W)
          where
            whole : (ks : List ℕ) → links_of s.records u ≡ length ks → RouteWritten (in_service s) s.records u buffer wr buffer' → Fits ks (length buffer) Refusing (Writing ks)
            whole ks z (inl (le, y, F)) = absurd (ok_err wr _ _ y e)
            whole ks z (inr (lt, y, same)) = inr ((λ le. omega arith), (x ∙ ap (λ i. Err (NoRoom i)) (ap (λ i. i.needed) (err_one {A = ℕ} _ _ (sym e ∙ y)) ∙ z), same))

        pub route_written : wr ≡ Ok c → r ≡ Ok c → RouteAnswer m s u buffer r buffer'
        route_written e x = routing (λ ks P z. whole ks P z W)
          where
            whole : (ks : List ℕ) → Leads (in_service s) (next_of s.records) t u ks → links_of s.records u ≡ length ks →
                RouteWritten (in_service s) s.records u buffer wr buffer' → Fits ks (length buffer) Refusing (Writing ks)
            whole ks P z (inr (lt, y, same)) = absurd (ok_err wr c _ e y)
            whole ks P z (inl (le, y, F)) =
                let i : length ks ≤ length buffer = omega arith in
                inl (i, (x ∙ ap Ok (ok_one {B = Needed} c _ (sym e ∙ y) ∙ z), F.rest ∙ ap₂ (λ a b. a ++ drop b buffer) (F.along t ks P (sym z)) z))

      abbrev Detouring : ℕ → List ℕ → Type 0
      Detouring passed ks = Asks (passed + length ks ≤ length buffer) ((r ≡ Err (NoRoom (passed + length ks))) × (buffer' ≡ buffer))
          ((r ≡ Ok (passed + length ks)) × (buffer' ≡ take passed buffer ++ (ks ++ drop (passed + length ks) buffer)))

      abbrev BackingUp : ℕ → ℕ → Type 0
      BackingUp t g = Moves u t Refusing ((k : ℕ) × (l : Link) × (ks : List ℕ) × Next (worst m (in_service s) t) (in_service s) t u k l × Backup m (in_service s) t k ks × Fits ks (length buffer) Refusing (Writing ks))

      pub backup_refused : (e : PlannerFault) → r₀ ≡ Err e → r ≡ Err e → buffer' ≡ buffer → BackupAnswer m s u buffer r buffer'
      backup_refused e q x y = reading_refused m M s N R u r₀ e asked q Refusing BackingUp (x, y)

      pub backup_at_destination : (t g : ℕ) → r₀ ≡ Ok (found t g) → u ≡ t → r ≡ Err (AtDestination u) → buffer' ≡ buffer → BackupAnswer m s u buffer r buffer'
      backup_at_destination t g q e x y = reading_accepted m M s N R u r₀ t g asked q Refusing BackingUp (λ K. inr ((λ ne. ne e), (x, y)))

      pub backup_written : (t g : ℕ) → r₀ ≡ Ok (found t g) → (u ≡ t → ⊥) → DetourAnswer m (in_service s) t u 0 buffer r buffer' → BackupAnswer m s u buffer r buffer'
      backup_written t g q ne D = reading_accepted m M s N R u r₀ t g asked q Refusing BackingUp (λ K.
          let (k, l, ks, X, B, F) = D in
          inl (ne, (k, l, ks, X, B, whole ks F)))
        where
          whole : (ks : List ℕ) → Detouring 0 ks → Fits ks (length buffer) Refusing (Writing ks)
          whole ks (inl (le, (x, y))) = inl (rw zero-add at le, (rw zero-add at x, rw zero-add at y))
          whole ks (inr (out, (x, y))) = inr ((λ le. out (rw zero-add le)), (rw zero-add at x, y))

    -- Traces.
    module _ (f : Failure) (r : Result (ℕ × ℕ) PlannerFault) where
      abbrev Denying : PlannerFault → Type 0
      Denying e = (r ≡ Err e) × (buffer' ≡ buffer)

      abbrev Tracing : ℕ → Type 0
      Tracing t = (ks : List ℕ) × (w : ℕ) × Traced m (in_service s) t (failed (in_service s) f) u ks × RouteValue (plain m) (in_service s) t u ks w ×
          Fits ks (length buffer) Denying ((r ≡ Ok (w, length ks)) × (buffer' ≡ written ks buffer))

      pub trace_refused : (e : PlannerFault) → r₀ ≡ Err e → r ≡ Err e → buffer' ≡ buffer → TraceAnswer m s u f buffer r buffer'
      trace_refused e q x y = reading_refused m M s N R u r₀ e asked q Denying (λ t g. Fails s.net f Denying (Tracing t)) (x, y)

      module _ (t g : ℕ) (found : r₀ ≡ Ok (found t g)) (fr : Result (Unit {0}) PlannerFault) (F : FailureAnswer s.net f fr) where
        pub trace_denied : (e : PlannerFault) → fr ≡ Err e → r ≡ Err e → buffer' ≡ buffer → TraceAnswer m s u f buffer r buffer'
        trace_denied e z x y = reading_accepted m M s N R u r₀ t g asked found Denying (λ t g. Fails s.net f Denying (Tracing t)) (λ K. denied f F)
          where
            deny : (d : PlannerFault) → fr ≡ Err d → Denying d
            deny d p = (x ∙ ap Err (err_one {A = Unit {0}} e d (sym z ∙ p)), y)

            denied : (x : Failure) → FailureAnswer s.net x fr → Fails s.net x Denying (Tracing t)
            denied Nothing p = absurd (ok_err fr tt e p z)
            denied (OneLink k) (inl (l, h, p)) = absurd (ok_err fr tt e p z)
            denied (OneLink k) (inr (none, p)) = inr (none, deny _ p)
            denied (OneGroup b) (inl (h, p)) = absurd (ok_err fr tt e p z)
            denied (OneGroup b) (inr (none, p)) = inr (none, deny _ p)

        going : fr ≡ Ok tt → (Known m M s N R u t g → Tracing t) → TraceAnswer m s u f buffer r buffer'
        going z on = reading_accepted m M s N R u r₀ t g asked found Denying (λ t g. Fails s.net f Denying (Tracing t)) (λ K. goes (on K) f F)
          where
            goes : Tracing t → (x : Failure) → FailureAnswer s.net x fr → Fails s.net x Denying (Tracing t)
            goes T Nothing p = T
            goes T (OneLink k) (inl (l, h, p)) = inl (l, h, T)
            goes T (OneLink k) (inr (none, p)) = absurd (ok_err fr tt _ z p)
            goes T (OneGroup b) (inl (h, p)) = inl (h, T)
            goes T (OneGroup b) (inr (none, p)) = absurd (ok_err fr tt _ z p)

        -- what is traced has a plain value, that of its places
        valued : Known m M s N R u t g → (ks : List ℕ) → Traced m (in_service s) t (failed (in_service s) f) u ks → RouteValue (plain m) (in_service s) t u ks (plain_value m (in_service s) ks)
        valued K ks T =
            let (w, W, le) = traced_value m M (in_service s) (service_limits s N) t (failed (in_service s) f) u g ks K.guarantee T in
            subst (λ x. RouteValue (plain m) (in_service s) t u ks x) (value_computed m (in_service s) t u ks w W) W

        module _ (ok : fr ≡ Ok tt) (v c : ℕ) (full : length s.records ≡ 256) (turn : Turned (in_service s) s.records t f u v c) where
          arrives : v ≡ t → (js is : List ℕ) → Held (worst m (in_service s) t) (in_service s) t u (js ++ is) → Leads (in_service s) (next_of s.records) v u js → Spared (in_service s) f js →
              Traced m (in_service s) t (failed (in_service s) f) u js
          arrives e js is H P S = subst (Traced m (in_service s) t (failed (in_service s) f) u) (append-nil js)
              (traced_turn m (in_service s) (next_of s.records) t v u f js is [] H P S (arrived e))

          pub trace_no_room : v ≡ t → length buffer < c → r ≡ Err (NoRoom c) → buffer' ≡ buffer → TraceAnswer m s u f buffer r buffer'
          trace_no_room e lt x y = going ok (λ K.
              let (js, is, H, P, z, S, _) = walked m M s N R u f t g v c full turn K in
              let T = arrives e js is H P S in
              (js, plain_value m (in_service s) js, T, valued K js T, inr ((λ le. omega arith), (x ∙ ap (λ i. Err (NoRoom i)) (sym z), y))))

          pub trace_arrived : v ≡ t → c ≤ length buffer → (front : List ℕ) (w : ℕ) →
              ((e : ℕ) (ks : List ℕ) → Leads (in_service s) (next_of s.records) e u ks → length ks ≡ c → front ≡ ks) →
              buffer' ≡ front ++ drop c buffer → w ≡ plain_value m (in_service s) (take c buffer') → r ≡ Ok (w, c) → TraceAnswer m s u f buffer r buffer'
          trace_arrived e le front w wrote y val x = going ok (λ K.
              let (js, is, H, P, z, S, _) = walked m M s N R u f t g v c full turn K in
              let T = arrives e js is H P S in
              let fj : front ≡ js = wrote v js P z in
              let yj : buffer' ≡ js ++ drop c buffer = y ∙ ap (λ a. a ++ drop c buffer) fj in
              let val' : w ≡ plain_value m (in_service s) js = val ∙ ap (plain_value m (in_service s)) (ap (take c) yj ∙ take_at js (drop c buffer) c z) in (
                js,
                plain_value m (in_service s) js,
                T,
                valued K js T,
                inl (
                  (let i : length js ≤ length buffer = omega arith in i),
                  (x ∙ ap₂ (λ a b. Ok (a, b)) val' (sym z), yj ∙ ap (λ i. js ++ drop i buffer) (sym z)),
                ),
              ))

          module _ (away : v ≡ t → ⊥) (mid : List ℕ) (br : Result ℕ PlannerFault) (D : DetourAnswer m (in_service s) t v c buffer br mid) where
            abbrev Detoured : List ℕ → Type 0
            Detoured bs = Asks (c + length bs ≤ length buffer) ((br ≡ Err (NoRoom (c + length bs))) × (mid ≡ buffer))
                ((br ≡ Ok (c + length bs)) × (mid ≡ take c buffer ++ (bs ++ drop (c + length bs) buffer)))

            detours : Known m M s N R u t g → (js : List ℕ) × (bs : List ℕ) × Leads (in_service s) (next_of s.records) v u js × (length js ≡ c) ×
                Traced m (in_service s) t (failed (in_service s) f) u (js ++ bs) × Detoured bs
            detours K = go (walked m M s N R u f t g v c full turn K)
              where
                go : (js : List ℕ) × (is : List ℕ) × Held (worst m (in_service s) t) (in_service s) t u (js ++ is) ×
                    Leads (in_service s) (next_of s.records) v u js × (length js ≡ c) × Spared (in_service s) f js × ((v ≡ t) ⊎ Blocked (in_service s) f is) →
                    (js : List ℕ) × (bs : List ℕ) × Leads (in_service s) (next_of s.records) v u js × (length js ≡ c) ×
                    Traced m (in_service s) t (failed (in_service s) f) u (js ++ bs) × Detoured bs
                go (js, is, H, P, z, S, inl e) = absurd (away e)
                go (js, [], H, P, z, S, inr b) = absurd b
                go (js, k ∷ is, H, P, z, S, inr b) =
                    let (l, X, _) = held_cut (worst m (in_service s) t) (in_service s) (next_of s.records) t v u js (k ∷ is) H P in
                    let (j, i, bs, J, B, E) = D in
                    let kj : k ≡ j = next_one (worst m (in_service s) t) (in_service s) t v k j l i X J in
                    let bad : failed (in_service s) f j ≡ true = subst (λ y. failed (in_service s) f y ≡ true) kj b in
                    (js, bs, P, z, traced_turn m (in_service s) (next_of s.records) t v u f js (k ∷ is) bs H P S (turned J bad B), E)

            pub trace_no_room_after : (e : PlannerFault) → br ≡ Err e → r ≡ Err e → buffer' ≡ mid → TraceAnswer m s u f buffer r buffer'
            trace_no_room_after e q x y = going ok (λ K.
                let (js, bs, P, z, T, E) = detours K in
                let long : length (js ++ bs) ≡ c + length bs = length-append js bs ∙ ap (λ i. i + length bs) z in (
                  js ++ bs,
                  plain_value m (in_service s) (js ++ bs),
                  T,
                  valued K (js ++ bs) T,
                  elim E [
                    | inl (le, (o, _)) ↦ absurd (ok_err br (c + length bs) e o q)
                    | inr (out, (o, same)) ↦ inr ((λ le. out (omega arith)), (x ∙ ap Err (err_one {A = ℕ} e (NoRoom (c + length bs)) (sym q ∙ o) ∙ ap NoRoom (sym long)), y ∙ same))
                  ],
                ))

            pub trace_turned : (front : List ℕ) (w count : ℕ) → br ≡ Ok count →
                ((e : ℕ) (ks : List ℕ) → Leads (in_service s) (next_of s.records) e u ks → length ks ≡ c → front ≡ ks) →
                buffer' ≡ front ++ drop c mid → w ≡ plain_value m (in_service s) (take count buffer') → r ≡ Ok (w, count) → TraceAnswer m s u f buffer r buffer'
            trace_turned front w count q wrote y val x = going ok (λ K.
                let (js, bs, P, z, T, E) = detours K in
                (js ++ bs, plain_value m (in_service s) (js ++ bs), T, valued K (js ++ bs) T, whole js bs P z E))
              where
                whole : (js bs : List ℕ) → Leads (in_service s) (next_of s.records) v u js → length js ≡ c → Detoured bs →
                    Fits (js ++ bs) (length buffer) Denying ((r ≡ Ok (plain_value m (in_service s) (js ++ bs), length (js ++ bs))) × (buffer' ≡ written (js ++ bs) buffer))
                whole js bs P z (inr (out, (o, _))) = absurd (ok_err br count _ q o)
                whole js bs P z (inl (le, (o, mids))) =
                    let long : length (js ++ bs) ≡ c + length bs = length-append js bs ∙ ap (λ i. i + length bs) z in
                    let cl : count ≡ length (js ++ bs) = ok_one {B = PlannerFault} count (c + length bs) (sym q ∙ o) ∙ sym long in
                    let cut : length (take c buffer) ≡ c = simp length-take (omega arith) in
                    let rest : drop c mid ≡ bs ++ drop (c + length bs) buffer = ap (drop c) mids ∙ drop_at (take c buffer) (bs ++ drop (c + length bs) buffer) c cut in
                    let all : buffer' ≡ written (js ++ bs) buffer =
                    y ∙ (ap₂ (λ a b. a ++ b) (wrote v js P z) rest ∙ (sym (append_assoc js bs (drop (c + length bs) buffer)) ∙ ap (λ i. (js ++ bs) ++ drop i buffer) (sym long))) in
                    let val' : w ≡ plain_value m (in_service s) (js ++ bs) = val ∙ ap (plain_value m (in_service s)) (ap (take count) all ∙ take_at (js ++ bs) (drop (length (js ++ bs)) buffer) count (sym cl)) in
                    inl ((let i : length (js ++ bs) ≤ length buffer = omega arith in i), (x ∙ ap₂ (λ a b. Ok (a, b)) val' cl, all))
