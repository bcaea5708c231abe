-- What the parts of the calls answer.
use Rattle.std.specs.Prelude.{◌≡◌, ℕ, ◌+◌, ◌≤◌, Bool, cond, List, ◌++◌, length, take, drop, Some, None, Ok, Err, Option, Result, ◌≢◌, nat_lt}
use Rattle.definitions.specs.declared.Link.{Link}
use Rattle.definitions.specs.declared.Failure.{Failure}
use Rattle.definitions.specs.Networks.{Net, Holds}
use Rattle.definitions.specs.Measures.{Scale}
use Rattle.definitions.specs.Routes.{Next}
use Rattle.definitions.specs.Plans.{worst, Backup}
use Rattle.histories.specs.declared.call.Reading.{Reading}
use Rattle.histories.specs.declared.fault.PlannerFault.{PlannerFault}
use Rattle.histories.specs.declared.fault.PlannerFault.TheVariants.{NoLink, NoPlan, NoNode, NoGuarantee, NoRoom}
use Rattle.routes.specs.Records.{value_of}
use Rattle.histories.specs.Questions.{Asks, Finds, Fails}
use Rattle.histories.specs.State.{State, marked, remarked}

-- The destination and the guarantee of a node, or the first refusal of 12, 13 and 14.
abbrev pub read_value : ℕ → ℕ → Option ℕ → Result Reading PlannerFault
read_value t u None = Err (NoGuarantee u)
read_value t u (Some g) = Ok (record { destination = t; guarantee = g })

abbrev pub read_from : State → Option ℕ → ℕ → Result Reading PlannerFault
read_from s None u = Err NoPlan
read_from s (Some t) u = cond (nat_lt u s.net.nodes) (read_value t u (value_of s.records u)) (Err (NoNode u))

abbrev pub read_answer : State → ℕ → Result Reading PlannerFault
read_answer s u = read_from s s.standing u

abbrev pub FailureAnswer : Net → Failure → Result (Unit {0}) PlannerFault → Type 0
FailureAnswer n f r = Fails n f (λ e. r ≡ Err e) (r ≡ Ok tt)

-- The mark of place k becomes b: does the place hold a link? 8. Is its mark another? If not, the refusal is `already`.
abbrev pub MarkAnswer : State → ℕ → Bool → PlannerFault → Result (Unit {0}) PlannerFault → State → Type 0
MarkAnswer s k b already r s' =
    Finds (Holds s.net k) ((r ≡ Err (NoLink k)) × (s' ≡ s)) (λ l.
    Asks (marked s.marks k ≢ b) ((r ≡ Err already) × (s' ≡ s)) ((r ≡ Ok tt) × (s' ≡ remarked s k b)))

-- The backup of the next link of u goes into the buffer after `passed` entries.
abbrev pub DetourAnswer : Scale → Net → ℕ → ℕ → ℕ → List ℕ → Result ℕ PlannerFault → List ℕ → Type 0
DetourAnswer m net t u passed buffer r buffer' =
    (k : ℕ) × (l : Link) × (ks : List ℕ) × Next (worst m net t) net t u k l × Backup m net t k ks ×
    Asks (passed + length ks ≤ length buffer) ((r ≡ Err (NoRoom (passed + length ks))) × (buffer' ≡ buffer))
    ((r ≡ Ok (passed + length ks)) × (buffer' ≡ take passed buffer ++ (ks ++ drop (passed + length ks) buffer)))
