-- The search for the best values, turn by turn.
use Rattle.std.proofs.Common.{◌≡◌, ℕ, ◌+◌, ◌<◌, ◌≤◌, true, List, [], ◌∷◌, length, set, Some, None, Option, sym, ap, ◌∙◌, subst, ⊎_elim, arith, length-set}
use mathlib.Core.Logic.{∥∥₁_elim}
use native.Mathlib.Bridge.{le_prop}
use Rattle.std.specs.List.Sorted.{IsPermutation}
use Rattle.std.specs.List.{All}
use Rattle.std.proofs.lemmas.List.Elements.{All-contains}
use Rattle.std.proofs.lemmas.List.Sorted.{length_permutation}
use Rattle.definitions.specs.declared.Link.{Link}
use Rattle.definitions.specs.Networks.{Net, Limits, place}
use Rattle.definitions.specs.Measures.{Scale, Laws}
use Rattle.definitions.specs.Routes.{Valuation}
use Rattle.definitions.specs.Searches.{given, Running, Labels}
use Rattle.definitions.proofs.Fixpoint.{Lawful}
use Rattle.definitions.proofs.Lawfuls.{Value}
use Rattle.definitions.proofs.Givens.{given_lawful}
use Rattle.definitions.proofs.Settling.{fewer_due, begins, skips, settles, ends, in_fits}
use Rattle.heap.specs.declared.Heap.{Heap}
use Rattle.heap.specs.Heaps.{Heaped}
use Rattle.heap.specs.Holds.{held, capacity}
use Rattle.heap.proofs.Held.{pop_keeps, pop_held, pop_only, contains_none}
use Rattle.frontier.specs.declared.entries.Candidate.{Candidate}
use Rattle.frontier.specs.Orders.{ValueBefore}
use Rattle.frontier.specs.Offers.{Fitting}
use Rattle.frontier.specs.Progress.{Waiting, Due, Offering, Searching, leads_on, links_into, links_open}
use Rattle.frontier.specs.OrdersLemmas.{itself}
use Rattle.std.proofs.lemmas.List.Sums.{count_by-le-length}
use Rattle.frontier.proofs.Tallies.{open_less}
use Rattle.frontier.proofs.Offering.{offered_all, holds_inside}
use Rattle.std.proofs.lemmas.List.{get_or-set_same, get_or-set_other}

-- an empty heap for a heap that holds nothing
empty_heap : (ρ : Valuation) (net : Net) (t : ℕ) (d : ℕ → Option ℕ) (Due : ℕ → Link → Type 0) (last : ℕ) (es : List Candidate) → es ≡ [] →
    Running ρ net t d (λ w u. ⊥) Due last → Running ρ net t d (Waiting es) Due last
empty_heap ρ net t d Due last es e R = record {
  at_t = R.at_t;
  met = R.met;
  newest = R.newest;
  behind = R.behind;
  ahead = λ w u i. absurd (contains_none es _ e i);
  origin = λ w u i. absurd (contains_none es _ e i);
  kept = R.kept;
  waits = λ k l b w h du n q mk z. absurd (R.waits k l b w h du n q mk z);
}

-- before a node is settled there is room for the links into it
pub settle_room : (net : Net) (values : List (Option ℕ)) (u v : ℕ) → u < length values → place values u ≡ None →
    links_open net (place values) ≡ links_open net (place (set values u (Some v))) + links_into net u (length net.places)
settle_room net values u v lt fresh =
    open_less net u v (place values) (place (set values u (Some v))) fresh (get_or-set_same values u (Some v) None lt) (λ x ne. get_or-set_other values u x (Some v) None ne)

module _ (m : Scale) (M : Laws m) (r : ℕ → Option ℕ) (net : Net) (F : Fitting net r) (N : Limits net) (t : ℕ) where
  lawful : Lawful (given m r) net Value
  lawful = given_lawful m M net N t r F

  -- the search goes on once a node is settled and the links into it are offered
  settled : (from : Candidate) (values : List (Option ℕ)) (old new : Heap Candidate) → from.node < length values → place values from.node ≡ None →
      net.nodes ≤ length values → length (held old) + links_open net (place values) ≤ capacity old →
      Offering m r net (place (set values from.node (Some from.value))) from old new 0 →
      Running (given m r) net t (place (set values from.node (Some from.value))) (Waiting (held old)) (λ k l. l.head ≡ from.node → ⊥) from.value →
      Searching m r net t (set values from.node (Some from.value)) new
  settled from values old new lt fresh few room O R =
      let now = set values from.node (Some from.value) in
      let R0 = fewer_due (given m r) net t Value lawful (place now) (Waiting (held old)) (λ k l. l.head ≡ from.node → ⊥) (Due from.node (length net.places)) from.value
      (λ k l h due e. let z = due e in let y = holds_inside net k l h in omega arith) R in
      let R1 = O.offered t (get_or-set_same values from.node (Some from.value) None lt) R0 in
      let a = settle_room net values from.node from.value lt fresh in
      let b = O.few in
      let c = O.room in
      record {
        order = O.order;
        nodes = simp length-set (omega arith);
        room = omega arith;
        last = from.value;
        running = offered_all (given m r) net t Value lawful (place now) from (held new) R1;
      }

  -- the first turn settles t
  pub searching_start : (values : List (Option ℕ)) (old new : Heap Candidate) → ((u : ℕ) → place values u ≡ None) → t < length values → net.nodes ≤ length values →
      held old ≡ [] → length net.places ≤ capacity old → (v : ℕ) → v ≡ m.start → (now : List (Option ℕ)) → now ≡ set values t (Some v) →
      Offering m r net (place now) (record { value = v; node = t }) old new 0 → Searching m r net t now new
  searching_start values old new none lt few empty room v e now is =
      subst (λ xs. Offering m r net (place xs) (record { value = v; node = t }) old new 0 → Searching m r net t xs new) (sym is) (λ O.
      let from : Candidate = record { value = v; node = t } in
      let a : length (held old) ≡ 0 = ap length empty in
      let b : links_open net (place values) ≤ length net.places = count_by-le-length (leads_on (place values)) net.places in
      let d = place (set values t (Some v)) in
      let R = begins (given m r) net t Value lawful d (get_or-set_same values t (Some v) None lt ∙ ap Some e) (λ u n. get_or-set_other values t u (Some v) None n ∙ none u) in
      let Q = empty_heap (given m r) net t d (λ k l. l.head ≡ t → ⊥) m.start (held old) empty R in
      settled from values old new lt (none t) few (omega arith) O (subst (Running (given m r) net t d (Waiting (held old)) (λ k l. l.head ≡ t → ⊥)) (sym e) Q))

  module _ (values : List (Option ℕ)) (old new : Heap Candidate) (S : Searching m r net t values old) (x : Candidate)
      (s : IsPermutation (held old) (x ∷ held new)) (H : Heaped (ValueBefore m) (held old) → Heaped (ValueBefore m) (held new))
      (first : Heaped (ValueBefore m) (held old) → All (ValueBefore m x) (held new)) (room : capacity new ≡ capacity old) where
    here : Waiting (held old) x.value x.node
    here = pop_held (held old) (held new) x s

    least : (v u : ℕ) → Waiting (held old) v u → m.no_worse x.value v ≡ true
    least v u i = ⊎_elim
        (λ p. itself m M x.value v (in_fits (given m r) net t Value lawful (place values) (Waiting (held old)) (λ k l. Unit {0}) S.last S.running x.value x.node here) (sym (ap (λ y. y.value) p)))
        (λ p. (All-contains (ValueBefore m x) (held new) _ (first S.order) p).by_value)
        (pop_keeps (held old) (held new) x _ s i)

    left : (v u : ℕ) → (u ≡ x.node → ⊥) → Waiting (held old) v u → Waiting (held new) v u
    left v u n i = ⊎_elim (λ p. absurd (n (ap (λ y. y.node) p))) (λ p. p) (pop_keeps (held old) (held new) x _ s i)

    -- the node of an entry is a node
    pub popped_inside : x.node < length values
    popped_inside = ∥∥₁_elim (S.running.origin x.value x.node here) le_prop (λ (k, l, b, h, tl, hd, mk). let z = (N.sound k l h).0 in let f = S.nodes in omega arith)

    -- the entry is of a node that has its value
    pub searching_skip : (a : ℕ) → place values x.node ≡ Some a → Searching m r net t values new
    searching_skip a e = record {
      order = H S.order;
      nodes = S.nodes;
      room = (let a = length_permutation _ _ s in let b = S.room in omega arith);
      last = S.last;
      running = skips (given m r) net t Value lawful (place values) (Waiting (held old)) (λ k l. Unit {0}) S.last S.running x.value x.node here (Waiting (held new)) least
          (λ v u i. pop_only (held old) (held new) x _ s i) left a e;
    }

    -- the entry gives its node its value
    pub searching_settle : (after : Heap Candidate) → place values x.node ≡ None → (now : List (Option ℕ)) → now ≡ set values x.node (Some x.value) →
        Offering m r net (place now) x new after 0 → Searching m r net t now after
    searching_settle after fresh now is =
        subst (λ xs. Offering m r net (place xs) x new after 0 → Searching m r net t xs after) (sym is) (λ O.
        settled x values new after popped_inside fresh S.nodes (let a = length_permutation _ _ s in let b = S.room in omega arith) O
        (settles (given m r) net t Value lawful (place values) (Waiting (held old)) (λ k l. Unit {0}) S.last S.running x.value x.node here (Waiting (held new)) least
        (λ v u i. pop_only (held old) (held new) x _ s i) left (place (set values x.node (Some x.value))) fresh
        (get_or-set_same values x.node (Some x.value) None popped_inside) (λ y ne. get_or-set_other values x.node y (Some x.value) None ne) (λ k l. tt)))

    -- and there is less to do
    pub settle_less : (after : Heap Candidate) → place values x.node ≡ None → (now : List (Option ℕ)) → now ≡ set values x.node (Some x.value) →
        Offering m r net (place now) x new after 0 →
        length (held after) + links_open net (place now) < length (held old) + links_open net (place values)
    settle_less after fresh now is O =
        let a = settle_room net values x.node x.value popped_inside fresh in
        let b = O.few in
        let c = length_permutation _ _ s in
        let d : links_open net (place now) ≡ links_open net (place (set values x.node (Some x.value))) = ap (λ xs. links_open net (place xs)) is in
        omega arith

  -- at the end nothing waits
  pub searching_end : (values : List (Option ℕ)) (heap : Heap Candidate) → Searching m r net t values heap → held heap ≡ [] → Labels (given m r) net t (place values)
  searching_end values heap S e =
      ends (given m r) net t Value lawful (place values) (Waiting (held heap)) (λ k l. Unit {0}) S.last S.running (λ w u i. contains_none (held heap) _ e i) (λ k l. tt)
