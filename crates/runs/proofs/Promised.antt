-- The answers after a list of calls are right.
use Rattle.std.proofs.Common.{ℕ, ◌<◌, Bool, List}
use Rattle.definitions.specs.declared.Failure.{Failure}
use Rattle.definitions.specs.Networks.{Net, Limits, without}
use Rattle.definitions.specs.Measures.{Scale, Laws}
use Rattle.histories.specs.declared.call.Event.{Event}
use Rattle.histories.specs.State.{State, Right, Stands, in_service}
use Rattle.histories.specs.Answers.{GuaranteeAnswer, RouteAnswer, TraceAnswer}
use Rattle.histories.specs.Histories.{Standing, Marks, After}
use Rattle.histories.proofs.History.{any_calls}
use Rattle.histories.proofs.Promises.{guarantee_promised, answered_guarantee, guarantee_answered, route_held, trace_answered, trace_accepted}
use Rattle.runs.specs.declared.Answers.{Answers}
use Rattle.runs.specs.Promise.{AnswersRight}

pub answers_right : (m : Scale) → Laws m → (s : State) → Limits s.net → (u : ℕ) (f : Failure) (a : Answers) (route route' trace trace' : List ℕ) →
    GuaranteeAnswer m s u a.guarantee → RouteAnswer m s u route a.route route' → TraceAnswer m s u f trace a.trace trace' →
    (n : Net) (h : List Event) → After m n h s → (t : ℕ) → Standing h t → (w : ℕ → Bool) → Marks h w → u < n.nodes → AnswersRight m n (without w n) t u f a route route' trace trace'
answers_right m M s N u f a route route' trace trace' GA Ra TA = any_calls m s (λ n net t. u < n.nodes → AnswersRight m n net t u f a route route' trace trace') here
  where
    here : (t : ℕ) → Right m s → Stands s t → u < s.net.nodes → AnswersRight m s.net (in_service s) t u f a route route' trace trace'
    here t R st lt =
        let own = guarantee_promised m M s N R t u st lt a.guarantee GA in
        record {
          best = λ g e. route_held m M s N R t u st lt a.route route route' Ra g (answered_guarantee m M s N R t u st lt a.guarantee GA g e);
          refused = own.refused;
          safe = λ w c e.
              let (g, G, S) = trace_answered m M s N R t u st lt f a.trace trace trace' TA w c e in
              (g, guarantee_answered m M s N R t u st lt a.guarantee GA g G, S);
          accepted = λ g e. trace_accepted m M s N R t u st lt f a.trace trace trace' TA g (answered_guarantee m M s N R t u st lt a.guarantee GA g e);
          reached = own.reached;
        }
