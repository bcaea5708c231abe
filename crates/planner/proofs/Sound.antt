-- What a planner holds is right, and what follows for a node with a guarantee.
use Rattle.std.proofs.Common.{◌≡◌, ℕ, ◌<◌, List, length, Some, Ok, Result, vec_items, IsSome, sym, refl, subst, arith}
use mathlib.Core.Logic.{∥∥₁_elim}
use Rattle.definitions.specs.declared.Link.{Link}
use Rattle.definitions.specs.Networks.{Net, Limits, at_risk}
use Rattle.definitions.specs.Measures.{Laws}
use Rattle.definitions.specs.Routes.{Next}
use Rattle.definitions.specs.Plans.{plain, worst, Backup}
use Rattle.definitions.proofs.Lawfuls.{Value, worst_lawful}
use Rattle.histories.specs.State.{marked, in_service, PlanRight, Right}
use Rattle.histories.specs.declared.call.Reading.{Reading}
use Rattle.histories.specs.declared.fault.PlannerFault.{PlannerFault}
use Rattle.histories.specs.Parts.{read_answer}
use Rattle.histories.proofs.Reading.{found, known, service_limits}
use Rattle.histories.proofs.Unique.{right_prop}
use Rattle.networks.specs.declared.network.Network.{Ghosts as NetworkGhosts}
use Rattle.measures.specs.declared.Measure.{Ghosts as MeasureGhosts}
use Rattle.planner.specs.declared.planner.Planner.{Planner}
use Rattle.planner.specs.Planners.{state}
use Rattle.frontier.specs.declared.record.NodeRecord.{NodeRecord}
use Rattle.routes.specs.Records.{Recorded, Leads, value_of, steps_of, next_of}
use Rattle.routes.proofs.Leading.{onwards, detour}
use Rattle.routes.proofs.Walking.{some_there}

-- there is a record for each node that there can be
pub all : {N M : Type 0} {gn : NetworkGhosts N} {gm : MeasureGhosts M} (p : Planner N M gn gm) → length (vec_items p.records) ≡ 256
all p = omega (arith, p.records.ok.0, p.nodes)

module _ {N M : Type 0} {gn : NetworkGhosts N} {gm : MeasureGhosts M} (p : Planner N M gn gm) (laws : Laws gm.scale) (limits : Limits (gn.meaning p.network)) where
  pub right : Right gm.scale (state gn.meaning p)
  right = ∥∥₁_elim p.right (right_prop gm.scale laws (gn.meaning p.network) limits (marked (vec_items p.withdrawn)) p.destination (vec_items p.records)) (λ R. R)

  module _ (t u : ℕ) (stands : p.destination ≡ Some t) (away : u ≡ t → ⊥) (label : IsSome (value_of (vec_items p.records) u)) where
    pub recorded : (t < (gn.meaning p.network).nodes) × Recorded (worst gm.scale (in_service (state gn.meaning p)) t) (in_service (state gn.meaning p)) t (vec_items p.records)
    recorded = subst (λ o. PlanRight gm.scale (in_service (state gn.meaning p)) o (vec_items p.records)) stands right

    -- there is a next link
    pub next_there : IsSome (next_of (vec_items p.records) u)
    next_there =
        let s = state gn.meaning p in
        let (a, e) = some_there (value_of (vec_items p.records) u) label in
        let (k, l, n, K) = onwards (worst gm.scale (in_service s) t) (in_service s) t Value (worst_lawful gm.scale laws (in_service s) (service_limits s limits) t) (vec_items p.records) recorded.1 u a e away in
        subst (λ o. IsSome o) (sym n) refl

    -- and its backup, by the records of the layer at risk with it
    pub detoured : (x : ℕ) → next_of (vec_items p.records) u ≡ Some x → (net : Net) → net ≡ in_service (state gn.meaning p) → (layer : List NodeRecord) → (t < net.nodes → Recorded (plain gm.scale) (at_risk x net) t layer) →
        (l : Link) × (ks : List ℕ) × Next (worst gm.scale (in_service (state gn.meaning p)) t) (in_service (state gn.meaning p)) t u x l × Backup gm.scale (in_service (state gn.meaning p)) t x ks ×
        Leads (at_risk x net) (next_of layer) t u ks × (steps_of layer u ≡ Some (length ks))
    detoured x n net same layer found =
        let s = state gn.meaning p in
        let (a, e) = some_there (value_of (vec_items p.records) u) label in
        let E : Recorded (plain gm.scale) (at_risk x (in_service s)) t layer = subst (λ y. Recorded (plain gm.scale) (at_risk x y) t layer) same (found (subst (λ y. t < y.nodes) (sym same) recorded.0)) in
        let (l, ks, K, B, P, z) = detour gm.scale laws (in_service s) (service_limits s limits) t (vec_items p.records) recorded.1 u a x layer away e n E in
        (l, ks, K, B, subst (λ y. Leads (at_risk x y) (next_of layer) t u ks) (sym same) P, z)

  -- a node that is read has a next link, unless it is the destination
  pub next_found : (t g u : ℕ) (r : Result Reading PlannerFault) → r ≡ read_answer (state gn.meaning p) u → r ≡ Ok (found t g) → (u ≡ t → ⊥) → (x : ℕ) × (next_of (vec_items p.records) u ≡ Some x)
  next_found t g u r asked q away =
      let K = known gm.scale laws (state gn.meaning p) limits right u r t g asked q in
      some_there (next_of (vec_items p.records) u) (next_there t u K.stands away (subst (λ o. IsSome o) (sym K.label) refl))
