-- From the answers of guarantee, route and trace to the promise.
use Rattle.std.proofs.Common.{◌≡◌, ℕ, ◌<◌, ◌≤◌, true, ◌⊎◌, List, length, is_ok, Some, Ok, Err, Result, sym, ap, ◌∙◌, subst, inl, inr}
use mathlib.Core.Logic.{∥∥₁_elim}
use mathlib.Core.HLevel.{⊥_prop}
use Rattle.definitions.specs.declared.Failure.{Failure}
use Rattle.definitions.specs.declared.Failure.TheVariants.{Nothing, OneLink, OneGroup}
use Rattle.definitions.specs.Networks.{Net, Limits, failed}
use Rattle.definitions.specs.Measures.{Scale, Laws}
use Rattle.definitions.specs.Routes.{RouteValue, Held}
use Rattle.definitions.specs.Plans.{plain, worst, ProtectedRoute, Guarantee, Traced}
use Rattle.definitions.proofs.Fixpoint.{label_best, label_bound, best_label, best_one}
use Rattle.definitions.proofs.Layers.{without_limits, below}
use Rattle.definitions.proofs.Lawfuls.{Value, worst_lawful}
use Rattle.definitions.proofs.Following.{value_steps, held_from, held_value}
use Rattle.definitions.proofs.Tracing.{traced_route, traced_value, traced_tight, Near}
use Rattle.histories.specs.declared.fault.PlannerFault.{PlannerFault}
use Rattle.histories.specs.declared.fault.PlannerFault.TheVariants.{NoGuarantee}
use Rattle.histories.specs.Faults.{planner_code}
use Rattle.routes.specs.Records.{Recorded, value_of, steps_of, next_of}
use Rattle.routes.specs.Walks.{written}
use Rattle.routes.proofs.Leading.{some_one}
use Rattle.histories.specs.Questions.{Finds, Reads, Fails, Fits}
use Rattle.histories.specs.State.{State, marked, in_service, Stands, PlanRight, Right}
use Rattle.histories.specs.Answers.{GuaranteeAnswer, RouteAnswer, TraceAnswer}
use Rattle.histories.specs.Promise.{BestHeld, RefusedRightly, FailureReaches, SafeTrace, TraceAccepted, RouteHeld, GuaranteePromise, RoutePromise, TracePromise}
use Rattle.histories.proofs.Plain.{apart, ok_err, ok_one, err_one}
use Rattle.histories.proofs.Safety.{value_one}
use Rattle.definitions.proofs.Mains.{protected_value, value_protected}
use Rattle.definitions.proofs.Always.{backups}

-- Where a plan to t stands and there is the node, what is left is whether it has a guarantee.
pub reads_at : (m : Scale) (net : Net) (stands : ℕ → Type 0) (u t : ℕ) (refused : PlannerFault → Type 0) (accepted : ℕ → ℕ → Type 0) →
    stands t → ((x : ℕ) → stands x → x ≡ t) → u < net.nodes → Reads m net stands u refused accepted →
    ((g : ℕ) × Guarantee m net t u g × accepted t g) ⊎ (((g : ℕ) → Guarantee m net t u g → ⊥) × refused (NoGuarantee u))
reads_at m net stands u t refused accepted st one lt (inr (none, r)) = absurd (none t st)
reads_at m net stands u t refused accepted st one lt (inl (x, sx, inr (out, r))) = absurd (out lt)
reads_at m net stands u t refused accepted st one lt (inl (x, sx, inl (i, rest))) =
    subst (λ y. Finds (Guarantee m net y u) (refused (NoGuarantee u)) (λ g. accepted y g)) (one x sx) rest

module _ (m : Scale) (M : Laws m) (s : State) (N : Limits s.net) (R : Right m s) (t u : ℕ) (st : Stands s t) (lt : u < s.net.nodes) where
  limits : Limits (in_service s)
  limits = without_limits (marked s.marks) s.net N

  one_destination : (x : ℕ) → Stands s x → x ≡ t
  one_destination x e = some_one x t (sym e ∙ st)

  recorded : Recorded (worst m (in_service s) t) (in_service s) t s.records
  recorded = let S : PlanRight m (in_service s) (Some t) s.records = subst (λ o. PlanRight m (in_service s) o s.records) st R in S.1

  -- the guarantee answered is the guarantee, and it is refused where there is none
  pub guaranteed : (r : Result ℕ PlannerFault) → GuaranteeAnswer m s u r →
      ((g : ℕ) × Guarantee m (in_service s) t u g × (r ≡ Ok g)) ⊎ (((g : ℕ) → Guarantee m (in_service s) t u g → ⊥) × (r ≡ Err (NoGuarantee u)))
  guaranteed r A = reads_at m (in_service s) (Stands s) u t (λ f. r ≡ Err f) (λ t g. r ≡ Ok g) st one_destination lt A

  guarantee_one : (a b : ℕ) → Guarantee m (in_service s) t u a → Guarantee m (in_service s) t u b → a ≡ b
  guarantee_one a b A B = best_one (worst m (in_service s) t) (in_service s) t Value (worst_lawful m M (in_service s) limits t) u a b A B

  -- a backed-up route gives a guarantee
  backed_guarantee : (js : List ℕ) → ProtectedRoute (in_service s) t u js → (g : ℕ) × Guarantee m (in_service s) t u g
  backed_guarantee js P =
      let (v, W) = protected_value m M (in_service s) limits t u js P in
      let (a, e, le) = label_bound (worst m (in_service s) t) (in_service s) t Value (worst_lawful m M (in_service s) limits t) (value_of s.records) recorded.labels u js v W in
      (a, label_best (worst m (in_service s) t) (in_service s) t Value (worst_lawful m M (in_service s) limits t) (value_of s.records) recorded.labels u a e)

  -- and a guarantee is that of a backed-up route
  guarantee_backed : (g : ℕ) → Guarantee m (in_service s) t u g → ((js : List ℕ) → ProtectedRoute (in_service s) t u js → ⊥) → ⊥
  guarantee_backed g G none = ∥∥₁_elim G.reached ⊥_prop (λ (ks, W). none ks (value_protected m M (in_service s) limits t u ks g W))

  -- a node with a guarantee has a held route
  pub guarantee_held : (g : ℕ) → Guarantee m (in_service s) t u g → (ks : List ℕ) × Held (worst m (in_service s) t) (in_service s) t u ks
  guarantee_held g G =
      let L = worst_lawful m M (in_service s) limits t in
      let e = best_label (worst m (in_service s) t) (in_service s) t Value L (value_of s.records) recorded.labels u g G in
      let (c, q) = value_steps (worst m (in_service s) t) (in_service s) t Value L (value_of s.records) recorded.labels (steps_of s.records) (next_of s.records) recorded.links u g e in
      held_from (worst m (in_service s) t) (in_service s) t Value L (value_of s.records) recorded.labels (steps_of s.records) (next_of s.records) recorded.links c u q

  pub best_held : (g : ℕ) → Guarantee m (in_service s) t u g → (ks : List ℕ) → Held (worst m (in_service s) t) (in_service s) t u ks → BestHeld m (in_service s) t u g
  best_held g G ks H = record {
    places = ks;
    held = H;
    value = held_value (worst m (in_service s) t) (in_service s) t Value (worst_lawful m M (in_service s) limits t) u ks g G H;
    others = λ js P. let (v, W) = protected_value m M (in_service s) limits t u js P in (v, W, G.unbeaten js v W);
  }

  near_there : (c : ℕ) (f : Failure) → Near m M (in_service s) limits t c f → Fails s.net f (λ e. ⊥) (Unit {0})
  near_there c Nothing p = tt
  near_there c (OneLink k) (l, x, h, S, le) = inl (l, (below (marked s.marks) s.net k l h).0, tt)
  near_there c (OneGroup b) p = absurd p

  failure_reaches : (g : ℕ) → Guarantee m (in_service s) t u g → FailureReaches m s.net (in_service s) t u g
  failure_reaches g G =
      let (ks, H) = guarantee_held g G in
      let (f, js, near, T, W) = traced_tight m M (in_service s) limits t (backups m M (in_service s) limits t) u g ks G H in
      record { failure = f; there = near_there (length ks) f near; places = js; traced = T; value = W }

  -- The promise of guarantee.
  module _ (r : Result ℕ PlannerFault) (A : GuaranteeAnswer m s u r) where
    pub answered_guarantee : (g : ℕ) → r ≡ Ok g → Guarantee m (in_service s) t u g
    answered_guarantee g e = elim (guaranteed r A) [
      | inl (h, G, q) ↦ subst (λ y. Guarantee m (in_service s) t u y) (ok_one {B = PlannerFault} h g (sym q ∙ e)) G
      | inr (none, q) ↦ absurd (ok_err r g (NoGuarantee u) e q)
    ]

    pub guarantee_answered : (g : ℕ) → Guarantee m (in_service s) t u g → r ≡ Ok g
    guarantee_answered g G = elim (guaranteed r A) [
      | inl (h, H, q) ↦ q ∙ ap Ok (guarantee_one h g H G)
      | inr (none, q) ↦ absurd (none g G)
    ]

    refused_rightly : RefusedRightly (in_service s) t u r
    refused_rightly = elim (guaranteed r A) [
      | inl (g, G, e) ↦ record {
        exactly = (λ x. absurd (apart (sym (ap is_ok e) ∙ x)), λ none. absurd (guarantee_backed g G none));
        fault = λ f q. absurd (ok_err r g f e q);
      }
      | inr (none, e) ↦ record {
        exactly = (λ x js P. (let (g, G) = backed_guarantee js P in none g G), λ x. ap is_ok e);
        fault = λ f q. ap planner_code (sym (err_one {A = ℕ} (NoGuarantee u) f (sym e ∙ q)));
      }
    ]

    pub guarantee_promised : GuaranteePromise m s.net (in_service s) t u r
    guarantee_promised = record {
      best = λ g e. let G = answered_guarantee g e in let (ks, H) = guarantee_held g G in best_held g G ks H;
      refused = refused_rightly;
      reached = λ g e. failure_reaches g (answered_guarantee g e);
    }

  -- The promise of route.
  module _ (r : Result ℕ PlannerFault) (buffer buffer' : List ℕ) (A : RouteAnswer m s u buffer r buffer') where
    abbrev Declining : PlannerFault → Type 0
    Declining f = (r ≡ Err f) × (buffer' ≡ buffer)

    abbrev Writing : List ℕ → Type 0
    Writing ks = (r ≡ Ok (length ks)) × (buffer' ≡ written ks buffer)

    abbrev Routing : ℕ → Type 0
    Routing t = (ks : List ℕ) × Held (worst m (in_service s) t) (in_service s) t u ks × Fits ks (length buffer) Declining (Writing ks)

    routed : ((g : ℕ) × Guarantee m (in_service s) t u g × Routing t) ⊎ (((g : ℕ) → Guarantee m (in_service s) t u g → ⊥) × Declining (NoGuarantee u))
    routed = reads_at m (in_service s) (Stands s) u t Declining (λ t g. Routing t) st one_destination lt A

    pub route_held : (g : ℕ) → Guarantee m (in_service s) t u g → RouteHeld m (in_service s) t u g r buffer buffer'
    unfolding best_held
    route_held g G = go routed
      where
        go : ((g : ℕ) × Guarantee m (in_service s) t u g × Routing t) ⊎ (((g : ℕ) → Guarantee m (in_service s) t u g → ⊥) × Declining (NoGuarantee u)) → RouteHeld m (in_service s) t u g r buffer buffer'
        go (inr (none, _)) = absurd (none g G)
        go (inl (h, _, (ks, H, inl (_, x)))) = (best_held g G ks H, λ le. x)
        go (inl (h, _, (ks, H, inr (out, _)))) = (best_held g G ks H, λ le. absurd (out le))

    pub route_promised : RoutePromise m (in_service s) t u r buffer buffer'
    unfolding best_held
    route_promised = record {
      answered = λ c e. go c e routed;
      accepted = λ js P. let (g, G) = backed_guarantee js P in (g, route_held g G);
    }
      where
        go : (c : ℕ) → r ≡ Ok c → ((g : ℕ) × Guarantee m (in_service s) t u g × Routing t) ⊎ (((g : ℕ) → Guarantee m (in_service s) t u g → ⊥) × Declining (NoGuarantee u)) →
            (g : ℕ) × (b : BestHeld m (in_service s) t u g) × (c ≡ length b.places) × (buffer' ≡ written b.places buffer)
        go c e (inr (none, (x, _))) = absurd (ok_err r c (NoGuarantee u) e x)
        go c e (inl (g, G, (ks, H, inl (_, (x, y))))) = (g, best_held g G ks H, ok_one {B = PlannerFault} c (length ks) (sym e ∙ x), y)
        go c e (inl (g, G, (ks, H, inr (_, (x, _))))) = absurd (ok_err r c _ e x)

  -- The promise of trace.
  module _ (f : Failure) (tr : Result (ℕ × ℕ) PlannerFault) (buffer buffer' : List ℕ) (TA : TraceAnswer m s u f buffer tr buffer') where
    abbrev Refusing : PlannerFault → Type 0
    Refusing e = (tr ≡ Err e) × (buffer' ≡ buffer)

    abbrev Tracing : Type 0
    Tracing = (ks : List ℕ) × (w : ℕ) × Traced m (in_service s) t (failed (in_service s) f) u ks × RouteValue (plain m) (in_service s) t u ks w ×
        Fits ks (length buffer) Refusing ((tr ≡ Ok (w, length ks)) × (buffer' ≡ written ks buffer))

    reading : ((g : ℕ) × Guarantee m (in_service s) t u g × Fails s.net f Refusing Tracing) ⊎ (((g : ℕ) → Guarantee m (in_service s) t u g → ⊥) × Refusing (NoGuarantee u))
    reading = reads_at m (in_service s) (Stands s) u t Refusing _ st one_destination lt TA

    -- the failure was refused, or the trace went on
    failing : (g : Failure) → Fails s.net g Refusing Tracing → (((e : PlannerFault) × Refusing e) × (Fails s.net g (λ e. ⊥) (Unit {0}) → ⊥)) ⊎ Tracing
    failing Nothing T = inr T
    failing (OneLink k) (inl (l, h, T)) = inr T
    failing (OneLink k) (inr (none, r)) = inl ((_, r), λ x. elim x [ inl (l, h, _) ↦ none l h | inr (_, z) ↦ z ])
    failing (OneGroup b) (inl (h, T)) = inr T
    failing (OneGroup b) (inr (none, r)) = inl ((_, r), λ x. elim x [ inl (h, _) ↦ none h | inr (_, z) ↦ z ])

    pub trace_answered : (w c : ℕ) → tr ≡ Ok (w, c) → (g : ℕ) × Guarantee m (in_service s) t u g × SafeTrace m (in_service s) t u f g w c buffer buffer'
    trace_answered w c e = go reading
      where
        safely : (g : ℕ) → Guarantee m (in_service s) t u g → (ks : List ℕ) (v : ℕ) → Traced m (in_service s) t (failed (in_service s) f) u ks → RouteValue (plain m) (in_service s) t u ks v →
            Fits ks (length buffer) Refusing ((tr ≡ Ok (v, length ks)) × (buffer' ≡ written ks buffer)) → SafeTrace m (in_service s) t u f g w c buffer buffer'
        safely g G ks v T W (inr (_, (x, _))) = absurd (ok_err tr (w, c) _ e x)
        safely g G ks v T W (inl (_, (x, y))) =
            let z : ◌≡◌ {A = ℕ × ℕ} (v, length ks) (w, c) = ok_one (v, length ks) (w, c) (sym x ∙ e) in
            let zv : v ≡ w = ap (λ p. p.0) z in
            let zc : length ks ≡ c = ap (λ p. p.1) z in
            let (o, V, le) = traced_value m M (in_service s) limits t (failed (in_service s) f) u g ks G T in
            let ov : o ≡ w = value_one m (in_service s) t u ks o v V W ∙ zv in
            record {
              places = ks;
              traced = T;
              count = sym zc;
              wrote = y;
              route = traced_route m M (in_service s) limits t f u ks T;
              value = subst (λ i. RouteValue (plain m) (in_service s) t u ks i) zv W;
              no_worse = subst (λ i. m.no_worse i g ≡ true) ov le;
            }

        go : ((g : ℕ) × Guarantee m (in_service s) t u g × Fails s.net f Refusing Tracing) ⊎ (((g : ℕ) → Guarantee m (in_service s) t u g → ⊥) × Refusing (NoGuarantee u)) →
            (g : ℕ) × Guarantee m (in_service s) t u g × SafeTrace m (in_service s) t u f g w c buffer buffer'
        go (inr (none, (x, _))) = absurd (ok_err tr (w, c) (NoGuarantee u) e x)
        go (inl (g, G, F)) = elim (failing f F) [
          | inl ((x, (y, _)), _) ↦ absurd (ok_err tr (w, c) x e y)
          | inr (ks, v, T, W, D) ↦ (g, G, safely g G ks v T W D)
        ]

    pub trace_accepted : (g : ℕ) → Guarantee m (in_service s) t u g → TraceAccepted m s.net (in_service s) t u f tr buffer
    trace_accepted g G there = go reading
      where
        go : ((g : ℕ) × Guarantee m (in_service s) t u g × Fails s.net f Refusing Tracing) ⊎ (((g : ℕ) → Guarantee m (in_service s) t u g → ⊥) × Refusing (NoGuarantee u)) →
            (ks : List ℕ) × Traced m (in_service s) t (failed (in_service s) f) u ks × (length ks ≤ length buffer → is_ok tr ≡ true)
        go (inr (none, x)) = absurd (none g G)
        go (inl (i, _, F)) = elim (failing f F) [
          | inl (_, none) ↦ absurd (none there)
          | inr (js, v, S, W, inl (_, (x, _))) ↦ (js, S, λ le. ap is_ok x)
          | inr (js, v, S, W, inr (none, _)) ↦ (js, S, λ le. absurd (none le))
        ]

    pub trace_promised : TracePromise m s.net (in_service s) t u f tr buffer buffer'
    trace_promised = record {
      answered = λ w c e. let (g, G, S) = trace_answered w c e in let (ks, H) = guarantee_held g G in (g, best_held g G ks H, S);
      accepted = λ js P. let (g, G) = backed_guarantee js P in trace_accepted g G;
    }
