-- What guarantee, route and trace promise, in terms of all routes to the destination of the plan that stands.
use Rattle.std.specs.Prelude.{◌≡◌, ℕ, ◌<◌, ◌≤◌, true, false, ◌↔◌, List, length, is_ok, Ok, Err, Result}
use Rattle.definitions.specs.declared.Failure.{Failure}
use Rattle.definitions.specs.Networks.{Net, without, failed}
use Rattle.definitions.specs.Measures.{Scale}
use Rattle.definitions.specs.Routes.{Route, RouteValue, Held}
use Rattle.definitions.specs.Plans.{plain, worst, ProtectedRoute, Traced}
use Rattle.histories.specs.declared.fault.PlannerFault.{PlannerFault}
use Rattle.histories.specs.Faults.{planner_code}
use Rattle.histories.specs.State.{State}
use Rattle.histories.specs.Questions.{Fails}
use Rattle.histories.specs.Histories.{AfterAnyCalls}
use Rattle.routes.specs.Walks.{written}

-- The places are a route from u to t with all links backed up, and its worst value is v.
abbrev pub WorstValue : Scale → Net → ℕ → ℕ → List ℕ → ℕ → Type 0
WorstValue m net t u ks v = RouteValue (worst m net t) net t u ks v

-- The places are a route from u to t, and its plain value is v.
abbrev pub PlainValue : Scale → Net → ℕ → ℕ → List ℕ → ℕ → Type 0
PlainValue m net t u ks v = RouteValue (plain m) net t u ks v

-- g is the worst value of the held route of u, and every route from u with all links backed up has a worst value as bad or worse.
pub record BestHeld (m : Scale) (net : Net) (t u g : ℕ) : Type 0 where
  pub places : List ℕ
  pub held : Held (worst m net t) net t u places
  pub value : WorstValue m net t u places g
  pub others : (js : List ℕ) → ProtectedRoute net t u js → (v : ℕ) × WorstValue m net t u js v × (m.no_worse g v ≡ true)

-- A guarantee is refused exactly where no route from the node has a backup for each link; the number is then 14.
pub record RefusedRightly (net : Net) (t u : ℕ) (r : Result ℕ PlannerFault) : Type 0 where
  pub exactly : (is_ok r ≡ false) ↔ ((js : List ℕ) → ProtectedRoute net t u js → ⊥)
  pub fault : (f : PlannerFault) → r ≡ Err f → planner_code f ≡ record { layer = 3; number = 14; place = u }

-- For some failure that a trace accepts, or for none, the places that the trace takes have the plain value g.
pub record FailureReaches (m : Scale) (n net : Net) (t u g : ℕ) : Type 0 where
  pub failure : Failure
  pub there : Fails n failure (λ e. ⊥) (Unit {0})
  pub places : List ℕ
  pub traced : Traced m net t (failed net failure) u places
  pub value : PlainValue m net t u places g

-- The trace from u under the failure f was written: its c places form a route to t over links neither failed nor withdrawn,
-- and w is the plain value of that route, no worse than g.
pub record SafeTrace (m : Scale) (net : Net) (t u : ℕ) (f : Failure) (g w c : ℕ) (buffer buffer' : List ℕ) : Type 0 where
  pub places : List ℕ
  pub traced : Traced m net t (failed net f) u places
  pub count : c ≡ length places
  pub wrote : buffer' ≡ written places buffer
  pub route : Route (without (failed net f) net) t u places
  pub value : PlainValue m net t u places w
  pub no_worse : m.no_worse w g ≡ true

-- Where what fails is there to fail, the trace has its places, and it is accepted if the buffer holds them.
abbrev pub TraceAccepted : Scale → Net → Net → ℕ → ℕ → Failure → Result (ℕ × ℕ) PlannerFault → List ℕ → Type 0
TraceAccepted m n net t u f r buffer = Fails n f (λ e. ⊥) (Unit {0}) →
    (ks : List ℕ) × Traced m net t (failed net f) u ks × (length ks ≤ length buffer → is_ok r ≡ true)

-- The places of the held route, whose worst value is g, are what route answers and writes, if the buffer holds them.
abbrev pub RouteHeld : Scale → Net → ℕ → ℕ → ℕ → Result ℕ PlannerFault → List ℕ → List ℕ → Type 0
RouteHeld m net t u g r buffer buffer' =
    (b : BestHeld m net t u g) × (length b.places ≤ length buffer → (r ≡ Ok (length b.places)) × (buffer' ≡ written b.places buffer))

-- What guarantee answers for the node u, where a plan to t stands. The network n was opened, and net is n without the
-- withdrawn links: a guarantee answered is the worst value of the held route, which no other route betters and which some
-- failure reaches, and it is refused only where there is none.
pub record GuaranteePromise (m : Scale) (n net : Net) (t u : ℕ) (r : Result ℕ PlannerFault) : Type 0 where
  pub best : (g : ℕ) → r ≡ Ok g → BestHeld m net t u g
  pub refused : RefusedRightly net t u r
  pub reached : (g : ℕ) → r ≡ Ok g → FailureReaches m n net t u g

-- What route answers for u and leaves in the buffer: the held route, wherever some route has a backup for each link.
pub record RoutePromise (m : Scale) (net : Net) (t u : ℕ) (r : Result ℕ PlannerFault) (buffer buffer' : List ℕ) : Type 0 where
  pub answered : (c : ℕ) → r ≡ Ok c → (g : ℕ) × (b : BestHeld m net t u g) × (c ≡ length b.places) × (buffer' ≡ written b.places buffer)
  pub accepted : (js : List ℕ) → ProtectedRoute net t u js → (g : ℕ) × RouteHeld m net t u g r buffer buffer'

-- What trace answers for u under the failure f and leaves in the buffer: a safe trace, no worse than the guarantee, wherever
-- some route has a backup for each link.
pub record TracePromise (m : Scale) (n net : Net) (t u : ℕ) (f : Failure) (r : Result (ℕ × ℕ) PlannerFault) (buffer buffer' : List ℕ) : Type 0 where
  pub answered : (w c : ℕ) → r ≡ Ok (w, c) → (g : ℕ) × BestHeld m net t u g × SafeTrace m net t u f g w c buffer buffer'
  pub accepted : (js : List ℕ) → ProtectedRoute net t u js → TraceAccepted m n net t u f r buffer

-- The same over whatever list of calls led to the state s.
abbrev pub GuaranteeHistory : Scale → State → ℕ → Result ℕ PlannerFault → Type 0
GuaranteeHistory m s u r = AfterAnyCalls m s (λ n net t. u < n.nodes → GuaranteePromise m n net t u r)

abbrev pub RouteHistory : Scale → State → ℕ → Result ℕ PlannerFault → List ℕ → List ℕ → Type 0
RouteHistory m s u r buffer buffer' = AfterAnyCalls m s (λ n net t. u < n.nodes → RoutePromise m net t u r buffer buffer')

abbrev pub TraceHistory : Scale → State → ℕ → Failure → Result (ℕ × ℕ) PlannerFault → List ℕ → List ℕ → Type 0
TraceHistory m s u f r buffer buffer' = AfterAnyCalls m s (λ n net t. u < n.nodes → TracePromise m n net t u f r buffer buffer')
