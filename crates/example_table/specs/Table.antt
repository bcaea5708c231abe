-- One table of the example network: what is claimed of it under a measure, and what a list of calls on a planner over it leaves.
-- The destination is 3.
use Rattle.std.specs.Prelude.{◌≡◌, List, [], ◌∷◌, ◌++◌, map, true, false, ℕ}
use Rattle.definitions.specs.Networks.{Net}
use Rattle.definitions.specs.Example.{Kind, by_delay, scale, Case, AllTrue, example, table}
use Rattle.histories.specs.declared.call.Event.{Event}
use Rattle.histories.specs.declared.call.Call.TheVariants.{Withdraw, Plan}
use Rattle.histories.specs.Faults.{planner_code}
use Rattle.histories.specs.Questions.{WithdrawCall}
use Rattle.histories.specs.Histories.{Withdrawn, Standing, Ran}

-- A line of the table: claims on a network under a measure; or a list of calls, the newest first, on a planner over a network,
-- after which a withdraw of k is refused with a number while the plan to t stands on.
pub data Line : Type 0 where
  claimed : Case → Line
  withdraw_refused : Kind → Net → List Event → ℕ → ℕ → ℕ → Line

-- A withdraw of k that was refused.
abbrev pub refused : ℕ → Event
refused k = record { call = Withdraw k; accepted = false }

abbrev pub LineHolds : Line → Type 0
LineHolds (claimed c) = AllTrue (scale c.kind) c.network 3 c.claims
LineHolds (withdraw_refused m n h k number t) =
    Ran (scale m) n (refused k ∷ h) ×
    WithdrawCall n (Withdrawn h k) k (λ f. planner_code f ≡ record { layer = 3; number = number; place = k }) ⊥ ×
    Standing (refused k ∷ h) t

abbrev pub AllLines : List Line → Type 0
AllLines [] = Unit {0}
AllLines (l ∷ ls) = LineHolds l × AllLines ls

-- Link 4 is withdrawn and a plan to 3 is made.
abbrev pub withdrawn_and_planned : List Event
withdrawn_and_planned = record { call = Plan 3; accepted = true } ∷ (record { call = Withdraw 4; accepted = true } ∷ [])

-- The claims on the example network, and last: after that list a second withdraw of 4 is refused with 9, and the plan stands.
abbrev pub lines : List Line
lines = map claimed table ++ (withdraw_refused by_delay (example 0) withdrawn_and_planned 4 9 3 ∷ [])
