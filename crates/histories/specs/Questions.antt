-- The questions put before each call, in their order. The first that is answered with no gives the refusal.
use Rattle.std.specs.Prelude.{ℕ, ◌<◌, ◌≤◌, ◌⊎◌, List, length, ◌≢◌}
use Rattle.definitions.specs.declared.Link.{Link}
use Rattle.definitions.specs.declared.Failure.{Failure}
use Rattle.definitions.specs.declared.Failure.TheVariants.{Nothing, OneLink, OneGroup}
use Rattle.definitions.specs.Networks.{Net, Holds, failed}
use Rattle.definitions.specs.Measures.{Scale}
use Rattle.definitions.specs.Routes.{RouteValue, Next, Held}
use Rattle.definitions.specs.Plans.{plain, worst, Guarantee, Backup, Traced}
use Rattle.histories.specs.declared.fault.PlannerFault.{PlannerFault}
use Rattle.histories.specs.declared.fault.PlannerFault.TheVariants.{NoLink, Withdrawn, InService, NoDestination, NoPlan, NoNode, NoGuarantee, AtDestination, NoRoom, NoGroup}

-- A question, what holds where the answer is no, and what where it is yes.
abbrev pub Asks : Type 0 → Type 0 → Type 0 → Type 0
Asks question refused accepted = (question × accepted) ⊎ ((question → ⊥) × refused)

-- A question whose yes comes with what was found.
abbrev pub Finds : {X : Type 0} → (X → Type 0) → Type 0 → (X → Type 0) → Type 0
Finds {X} question refused accepted = ((x : X) × question x × accepted x) ⊎ (((x : X) → question x → ⊥) × refused)

-- Withdraw: does the place hold a link? 8. Is it in service? 9.
abbrev pub WithdrawCall : Net → Type 0 → ℕ → (PlannerFault → Type 0) → Type 0 → Type 0
WithdrawCall n out k refused accepted =
    Finds (Holds n k) (refused (NoLink k)) (λ l.
    Asks (out → ⊥) (refused (Withdrawn k)) accepted)

-- Restore: does the place hold a link? 8. Is it withdrawn? 10.
abbrev pub RestoreCall : Net → Type 0 → ℕ → (PlannerFault → Type 0) → Type 0 → Type 0
RestoreCall n out k refused accepted =
    Finds (Holds n k) (refused (NoLink k)) (λ l.
    Asks out (refused (InService k)) accepted)

-- Plan: is the destination below the node count? 11.
abbrev pub PlanCall : Net → ℕ → (PlannerFault → Type 0) → Type 0 → Type 0
PlanCall n t refused accepted = Asks (t < n.nodes) (refused (NoDestination t)) accepted

-- Before each call that reads the plan: does a plan stand? 12. Is the node below the node count? 13. Has it a guarantee? 14.
abbrev pub Reads : Scale → Net → (ℕ → Type 0) → ℕ → (PlannerFault → Type 0) → (ℕ → ℕ → Type 0) → Type 0
Reads m net stands u refused accepted =
    Finds stands (refused NoPlan) (λ t.
    Asks (u < net.nodes) (refused (NoNode u)) (
    Finds (Guarantee m net t u) (refused (NoGuarantee u)) (λ g. accepted t g)))

-- Is the node other than the destination? 15.
abbrev pub Moves : ℕ → ℕ → (PlannerFault → Type 0) → Type 0 → Type 0
Moves u t refused accepted = Asks (u ≢ t) (refused (AtDestination u)) accepted

-- Does the place of a failed link hold a link? 8. Is a failed group below 32? 17.
abbrev pub Fails : Net → Failure → (PlannerFault → Type 0) → Type 0 → Type 0
Fails n Nothing refused accepted = accepted
Fails n (OneLink k) refused accepted = Finds (Holds n k) (refused (NoLink k)) (λ l. accepted)
Fails n (OneGroup b) refused accepted = Asks (b < 32) (refused (NoGroup b)) accepted

-- Does a buffer with this much room hold all the places? 16.
abbrev pub Fits : List ℕ → ℕ → (PlannerFault → Type 0) → Type 0 → Type 0
Fits ks room refused accepted = Asks (length ks ≤ room) (refused (NoRoom (length ks))) accepted

abbrev pub GuaranteeCall : Scale → Net → (ℕ → Type 0) → ℕ → (PlannerFault → Type 0) → (ℕ → Type 0) → Type 0
GuaranteeCall m net stands u refused accepted = Reads m net stands u refused (λ t g. accepted g)

abbrev pub NextCall : Scale → Net → (ℕ → Type 0) → ℕ → (PlannerFault → Type 0) → (ℕ → Type 0) → Type 0
NextCall m net stands u refused accepted = Reads m net stands u refused (λ t g.
    Moves u t refused (
    (k : ℕ) × (l : Link) × Next (worst m net t) net t u k l × accepted k))

abbrev pub RouteCall : Scale → Net → (ℕ → Type 0) → ℕ → ℕ → (PlannerFault → Type 0) → (List ℕ → Type 0) → Type 0
RouteCall m net stands u room refused accepted = Reads m net stands u refused (λ t g.
    (ks : List ℕ) × Held (worst m net t) net t u ks × Fits ks room refused (accepted ks))

abbrev pub BackupCall : Scale → Net → (ℕ → Type 0) → ℕ → ℕ → (PlannerFault → Type 0) → (List ℕ → Type 0) → Type 0
BackupCall m net stands u room refused accepted = Reads m net stands u refused (λ t g.
    Moves u t refused (
    (k : ℕ) × (l : Link) × (ks : List ℕ) × Next (worst m net t) net t u k l × Backup m net t k ks × Fits ks room refused (accepted ks)))

-- n is the network that the planner was opened over, net that network without its withdrawn links.
abbrev pub TraceCall : Scale → Net → Net → (ℕ → Type 0) → ℕ → Failure → ℕ → (PlannerFault → Type 0) → (ℕ → List ℕ → Type 0) → Type 0
TraceCall m n net stands u f room refused accepted = Reads m net stands u refused (λ t g.
    Fails n f refused (
    (ks : List ℕ) × (w : ℕ) × Traced m net t (failed net f) u ks × RouteValue (plain m) net t u ks w × Fits ks room refused (accepted w ks)))
