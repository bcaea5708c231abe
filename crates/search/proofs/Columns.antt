-- What the records say of the nodes, as functions and as lists.
use Rattle.std.proofs.Common.{◌≡◌, ℕ, zero, suc, replicate, refl, true, false, is_some, ◌<◌, ◌≤◌, List, length, set, get_or, Some, None, Option, sym, ap, ◌∙◌, subst, subst₂, arith}
use mathlib.Core.Path.{fun_ext}
use native.Mathlib.Decide.{ℕ_discrete}
use Rattle.std.proofs.Math.ListN.{get_or-map}
use Rattle.std.proofs.lemmas.List.{map-set, length-map, get_or-set_same, get_or-set_other}
use Rattle.definitions.specs.Networks.{Net, place}
use Rattle.definitions.specs.Measures.{Scale}
use Rattle.definitions.specs.Routes.{Valuation}
use Rattle.heap.specs.declared.Heap.{Heap}
use Rattle.frontier.specs.declared.entries.Candidate.{Candidate}
use Rattle.frontier.specs.declared.entries.Settled.{Settled}
use Rattle.frontier.specs.declared.entries.Hop.{Hop}
use Rattle.frontier.specs.Progress.{Offering, HopOffering, Walking, links_into, links_open}
use Rattle.frontier.proofs.Stored.{unset, set_to}
use Rattle.frontier.proofs.Tallies.{open_less}
use Rattle.frontier.specs.declared.record.NodeRecord.{NodeRecord}
use Rattle.frontier.specs.Records.{blank, value_of, steps_of, next_of, values_in, steps_in, nexts_in}

module _ (rs : List NodeRecord) where
  pub value_list : value_of rs ≡ place (values_in rs)
  value_list = fun_ext (λ u. sym (get_or-map (λ r. r.value) rs u blank))

  pub steps_list : steps_of rs ≡ place (steps_in rs)
  steps_list = fun_ext (λ u. sym (get_or-map (λ r. r.steps) rs u blank))

  pub next_list : next_of rs ≡ place (nexts_in rs)
  next_list = fun_ext (λ u. sym (get_or-map (λ r. r.next) rs u blank))

  -- a record is written whose value is v
  pub values_set : (i u : ℕ) (r : NodeRecord) → i ≡ u → values_in (set rs i r) ≡ set (values_in rs) u r.value
  values_set i u r e = map-set (λ r. r.value) rs i r ∙ ap (λ j. set (values_in rs) j r.value) e

  pub steps_set : (i u : ℕ) (r : NodeRecord) → i ≡ u → steps_in (set rs i r) ≡ set (steps_in rs) u r.steps
  steps_set i u r e = map-set (λ r. r.steps) rs i r ∙ ap (λ j. set (steps_in rs) j r.steps) e

  pub nexts_set : (i u : ℕ) (r : NodeRecord) → i ≡ u → nexts_in (set rs i r) ≡ set (nexts_in rs) u r.next
  nexts_set i u r e = map-set (λ r. r.next) rs i r ∙ ap (λ j. set (nexts_in rs) j r.next) e

  -- before a node is labelled there is room for the links into it
  pub value_room : (net : Net) (u : ℕ) → u < length rs → value_of rs u ≡ None → links_into net u (length net.places) ≤ links_open net (value_of rs)
  value_room net u lt fresh =
      let r : NodeRecord = record { value = Some 0; steps = None; next = None } in
      let a = open_less net u 0 (value_of rs) (value_of (set rs u r)) fresh (ap (λ x. x.value) (get_or-set_same rs u r blank lt)) (λ x ne. ap (λ x. x.value) (get_or-set_other rs u x r blank ne)) in
      omega arith

  pub steps_room : (net : Net) (u : ℕ) → u < length rs → steps_of rs u ≡ None → links_into net u (length net.places) ≤ links_open net (steps_of rs)
  steps_room net u lt fresh =
      let r : NodeRecord = record { value = None; steps = Some 0; next = None } in
      let a = open_less net u 0 (steps_of rs) (steps_of (set rs u r)) fresh (ap (λ x. x.steps) (get_or-set_same rs u r blank lt)) (λ x ne. ap (λ x. x.steps) (get_or-set_other rs u x r blank ne)) in
      omega arith

  -- what was read of the record of u was nothing, or something
  pub value_unset : (u : ℕ) (r : NodeRecord) → r ≡ get_or rs u blank → is_some r.value ≡ false → place (values_in rs) u ≡ None
  value_unset u r e q = ap (λ d. d u) (sym value_list) ∙ (ap (λ x. x.value) (sym e) ∙ unset r.value q)

  pub value_there : (u : ℕ) (r : NodeRecord) → r ≡ get_or rs u blank → is_some r.value ≡ true → (x : ℕ) × (place (values_in rs) u ≡ Some x)
  value_there u r e q = let (x, p) = set_to r.value q in (x, ap (λ d. d u) (sym value_list) ∙ (ap (λ x. x.value) (sym e) ∙ p))

  -- what was read of the record of u was nothing, or something
  pub steps_unset : (u : ℕ) (r : NodeRecord) → r ≡ get_or rs u blank → is_some r.steps ≡ false → place (steps_in rs) u ≡ None
  steps_unset u r e q = ap (λ d. d u) (sym steps_list) ∙ (ap (λ x. x.steps) (sym e) ∙ unset r.steps q)

  pub steps_there : (u : ℕ) (r : NodeRecord) → r ≡ get_or rs u blank → is_some r.steps ≡ true → (x : ℕ) × (place (steps_in rs) u ≡ Some x)
  steps_there u r e q = let (x, p) = set_to r.steps q in (x, ap (λ d. d u) (sym steps_list) ∙ (ap (λ x. x.steps) (sym e) ∙ p))

  pub value_long : length (values_in rs) ≡ length rs
  value_long = length-map rs (λ r. r.value)

  pub steps_long : length (steps_in rs) ≡ length rs
  steps_long = length-map rs (λ r. r.steps)

  pub next_long : length (nexts_in rs) ≡ length rs
  next_long = length-map rs (λ r. r.next)

-- cleared records are blank
pub cleared : (rs : List NodeRecord) (n : ℕ) → rs ≡ replicate n blank → (u : ℕ) → get_or rs u blank ≡ blank
cleared rs n e u = ap (λ xs. get_or xs u blank) e ∙ blank_there n u
  where
    blank_there : (n u : ℕ) → get_or (replicate n blank) u blank ≡ blank
    blank_there zero u = refl
    blank_there (suc n) zero = refl
    blank_there (suc n) (suc u) = blank_there n u

-- what a search keeps, said of the records and said of the list
module _ (rs : List NodeRecord) where
  pub offering_list : (m : Scale) (r : ℕ → Option ℕ) (net : Net) (from : Candidate) (old new : Heap Candidate) (b : ℕ) →
      Offering m r net (value_of rs) from old new b → Offering m r net (place (values_in rs)) from old new b
  offering_list m r net from old new b = subst (λ d. Offering m r net d from old new b) (value_list rs)

  -- the values are those of other records
  pub same_values : (rs' : List NodeRecord) → values_in rs ≡ values_in rs' → value_of rs ≡ value_of rs'
  same_values rs' e = value_list rs ∙ (ap place e ∙ sym (value_list rs'))

  pub hopping_list : (rs' : List NodeRecord) → values_in rs ≡ values_in rs' → (ρ : Valuation) (net : Net) (from : Settled) (old new : Heap Hop) (b : ℕ) →
      HopOffering ρ net (value_of rs) (steps_of rs) from old new b → HopOffering ρ net (value_of rs') (place (steps_in rs)) from old new b
  hopping_list rs' e ρ net from old new b = subst₂ (λ d s. HopOffering ρ net d s from old new b) (same_values rs' e) (steps_list rs)

pub walking_nexts : (ρ : Valuation) (net : Net) (t : ℕ) (steps nexts nexts' : List (Option ℕ)) (heap : Heap Hop) → nexts' ≡ nexts →
    Walking ρ net t steps nexts heap → Walking ρ net t steps nexts' heap
walking_nexts ρ net t steps nexts nexts' heap e = subst (λ nx. Walking ρ net t steps nx heap) (sym e)

-- nothing is written where there is nothing
pub still_none : (xs : List (Option ℕ)) (t : ℕ) → t < length xs → ((u : ℕ) → place xs u ≡ None) → (u : ℕ) → place (set xs t None) u ≡ None
still_none xs t lt none u = elim (ℕ_discrete u t) [
  | yes p ↦ ap (place (set xs t None)) p ∙ get_or-set_same xs t None None lt
  | no n ↦ get_or-set_other xs t u None None n ∙ none u
]
