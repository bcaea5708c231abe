-- What is promised of guarantee, route and trace, asked after any list of calls.
use Rattle.std.specs.Prelude.{◌≡◌, ℕ, ◌<◌, Bool, List, map, reverse, Ok, Err, Result}
use Rattle.definitions.specs.declared.Failure.{Failure}
use Rattle.definitions.specs.Networks.{Net, without}
use Rattle.definitions.specs.Measures.{Scale}
use Rattle.histories.specs.declared.call.Event.{Event}
use Rattle.histories.specs.Histories.{Standing, Marks, Ran}
use Rattle.histories.specs.Promise.{RouteHeld, RefusedRightly, FailureReaches, SafeTrace, TraceAccepted}
use Rattle.runs.specs.declared.Answers.{Answers}

-- The answers a of guarantee, route and trace for a node u, with f failed. The network n was opened, t is the destination of
-- the plan that stands, and net is n without the withdrawn links.
pub record AnswersRight (m : Scale) (n net : Net) (t u : ℕ) (f : Failure) (a : Answers) (route route' trace trace' : List ℕ) : Type 0 where
  -- (a) The guarantee answered is the worst value of the route answered, which is the held route; every route from u with
  -- all links backed up has a worst value as bad or worse.
  pub best : (g : ℕ) → a.guarantee ≡ Ok g → RouteHeld m net t u g a.route route route'
  -- (b) A guarantee is refused exactly where no route from u has a backup for each link, and then with 14.
  pub refused : RefusedRightly net t u a.guarantee
  -- (c) A trace answered runs to t over links neither failed nor withdrawn, and its value is no worse than the guarantee
  -- answered; it is accepted where there is a guarantee; and some failure, or none, makes its value the guarantee.
  pub safe : (w c : ℕ) → a.trace ≡ Ok (w, c) → (g : ℕ) × (a.guarantee ≡ Ok g) × SafeTrace m net t u f g w c trace trace'
  pub accepted : (g : ℕ) → a.guarantee ≡ Ok g → TraceAccepted m n net t u f a.trace trace
  pub reached : (g : ℕ) → a.guarantee ≡ Ok g → FailureReaches m n net t u g

-- The calls asked for were made on a planner just opened over n, each from what the one before left, and each was accepted or
-- refused as it should be. Wherever a plan then stands, the answers for any node are right.
pub record RightAfterCalls (m : Scale) (n : Net) (u : ℕ) (f : Failure) (asked events : List Event) (a : Answers) (route route' trace trace' : List ℕ) : Type 0 where
  pub calls : map (λ e. e.call) events ≡ map (λ e. e.call) asked
  pub ran : Ran m n (reverse events)
  -- which links are withdrawn is always decided
  pub withdrawn : (w : ℕ → Bool) × Marks (reverse events) w
  pub promise : (t : ℕ) → Standing (reverse events) t → (w : ℕ → Bool) → Marks (reverse events) w → u < n.nodes →
      AnswersRight m n (without w n) t u f a route route' trace trace'

-- The network comes back. Where there was no memory for a planner, nothing has changed.
abbrev pub AnswersAfter : {N : Type 0} → (N → Net) → Scale → N → ℕ → Failure → List Event → List Event → List ℕ → List ℕ → List ℕ → List ℕ → Result (Answers × N) N → Type 0
AnswersAfter meaning m x u f asked events route route' trace trace' (Ok r) = (r.1 ≡ x) × RightAfterCalls m (meaning x) u f asked events r.0 route route' trace trace'
AnswersAfter meaning m x u f asked events route route' trace trace' (Err y) = (y ≡ x) × (events ≡ asked) × (route' ≡ route) × (trace' ≡ trace)
