-- The search for next links, turn by turn.
use Rattle.std.proofs.Common.{◌≡◌, ℕ, ◌+◌, ◌<◌, ◌≤◌, ◌⊎◌, List, [], ◌∷◌, length, set, Some, None, Option, sym, ap, ◌∙◌, subst, inl, inr, ⊎_elim, arith, length-set}
use native.Mathlib.Decide.{ℕ_discrete}
use Rattle.std.specs.List.Sorted.{IsPermutation}
use Rattle.std.specs.List.{All}
use Rattle.std.proofs.lemmas.List.Elements.{All-contains}
use Rattle.std.proofs.lemmas.List.Sorted.{length_permutation}
use Rattle.std.proofs.lemmas.Bool.{cases_lt}
use Rattle.definitions.specs.declared.Link.{Link}
use Rattle.definitions.specs.Networks.{Net, Holds, Limits, place}
use Rattle.definitions.specs.Routes.{Valuation}
use Rattle.definitions.specs.Searches.{Labels, Stepping, Nexts}
use Rattle.definitions.proofs.Settling.{not_both}
use Rattle.definitions.proofs.Stepwise.{fewer_due, begins, skips, settles, ends}
use Rattle.heap.specs.declared.Heap.{Heap}
use Rattle.heap.specs.Heaps.{Heaped}
use Rattle.heap.specs.Holds.{held, capacity}
use Rattle.heap.proofs.Held.{pop_keeps, pop_held, pop_only, contains_none}
use Rattle.frontier.specs.declared.entries.Settled.{Settled}
use Rattle.frontier.specs.declared.entries.Hop.{Hop}
use Rattle.frontier.specs.Orders.{StepsBefore}
use Rattle.frontier.specs.Hops.{NoNext}
use Rattle.frontier.specs.Progress.{Due, leads_on, links_open, Hopping, HopOffering, Walking}
use Rattle.frontier.proofs.Offering.{holds_inside}
use Rattle.frontier.proofs.Searching.{settle_room}
use Rattle.std.proofs.lemmas.List.{get_or-set_same, get_or-set_other}
use Rattle.std.proofs.lemmas.List.Sums.{count_by-le-length}

module _ (ρ : Valuation) (net : Net) (N : Limits net) (t : ℕ) (d : ℕ → Option ℕ) (S : Labels ρ net t d) where
  empty_heap : (s nx : ℕ → Option ℕ) (Due : ℕ → Link → Type 0) (last : ℕ) (es : List Hop) → es ≡ [] →
      Stepping ρ net t s nx (λ n k. ⊥) Due last → Stepping ρ net t s nx (Hopping es) Due last
  empty_heap s nx Due last es e R = record {
    none_at_t = R.none_at_t;
    behind = R.behind;
    ahead = λ n k i. absurd (contains_none es _ e i);
    origin = λ n k i. absurd (contains_none es _ e i);
    taken = R.taken;
    kept = R.kept;
    waits = λ k l c h du T q z. absurd (R.waits k l c h du T q z);
  }

  -- the search goes on once a node has its steps and the links into it are offered
  counted : (from : Settled) (steps nexts : List (Option ℕ)) (old new : Heap Hop) → from.node < length steps → place steps from.node ≡ None →
      net.nodes ≤ length steps → net.nodes ≤ length nexts → length net.places ≤ capacity old →
      from.steps + (length (held old) + links_open net (place steps)) ≤ length net.places →
      NoNext t (place (set steps from.node (Some from.steps))) (place nexts) →
      HopOffering ρ net d (place (set steps from.node (Some from.steps))) from old new 0 →
      Stepping ρ net t (place (set steps from.node (Some from.steps))) (place nexts) (Hopping (held old)) (λ k l. l.head ≡ from.node → ⊥) from.steps →
      Walking ρ net t (set steps from.node (Some from.steps)) nexts new
  counted from steps nexts old new lt fresh few fewn room left idle O R =
      let now = set steps from.node (Some from.steps) in
      let R0 = fewer_due ρ net t (place now) (place nexts) (Hopping (held old)) (λ k l. l.head ≡ from.node → ⊥) (Due from.node (length net.places)) from.steps
      (λ k l h due e. let z = due e in let y = holds_inside net k l h in omega arith) R in
      let R1 = O.offered t (place nexts) S (get_or-set_same steps from.node (Some from.steps) None lt) R0 in
      let a = settle_room net steps from.node from.steps lt fresh in
      let b = O.few in
      let c = O.room in
      record {
        order = O.order;
        nodes = simp length-set (omega arith);
        next_nodes = fewn;
        room = omega arith;
        last = from.steps;
        left = omega arith;
        running = fewer_due ρ net t (place now) (place nexts) (Hopping (held new)) (Due from.node 0) (λ k l. Unit {0}) from.steps
            (λ k l h _ e. omega arith) R1;
        idle = idle;
      }

  -- the first turn counts t
  pub walking_start : (steps nexts : List (Option ℕ)) (old new : Heap Hop) → ((u : ℕ) → place steps u ≡ None) → ((u : ℕ) → place nexts u ≡ None) → t < length steps → net.nodes ≤ length steps → net.nodes ≤ length nexts →
      held old ≡ [] → length net.places ≤ capacity old → (now : List (Option ℕ)) → now ≡ set steps t (Some 0) →
      HopOffering ρ net d (place now) (record { node = t; steps = 0 }) old new 0 → Walking ρ net t now nexts new
  walking_start steps nexts old new none unled lt few fewn empty room now is =
      subst (λ xs. HopOffering ρ net d (place xs) (record { node = t; steps = 0 }) old new 0 → Walking ρ net t xs nexts new) (sym is) (λ O.
      let from : Settled = record { node = t; steps = 0 } in
      let a : length (held old) ≡ 0 = ap length empty in
      let b : links_open net (place steps) ≤ length net.places = count_by-le-length (leads_on (place steps)) net.places in
      let s = place (set steps t (Some 0)) in
      let R = begins ρ net t s (place nexts) (get_or-set_same steps t (Some 0) None lt) (λ u n. get_or-set_other steps t u (Some 0) None n ∙ none u) in
      counted from steps nexts old new lt (none t) few fewn room (omega arith) (unled t, λ u _. unled u) O (empty_heap s (place nexts) (λ k l. l.head ≡ t → ⊥) 0 (held old) empty R))

  module _ (steps nexts : List (Option ℕ)) (old new : Heap Hop) (W : Walking ρ net t steps nexts old) (x : Hop)
      (s : IsPermutation (held old) (x ∷ held new)) (H : Heaped StepsBefore (held old) → Heaped StepsBefore (held new))
      (first : Heaped StepsBefore (held old) → All (StepsBefore x) (held new)) (room : capacity new ≡ capacity old) where
    here : Hopping (held old) x.steps x.link
    here = pop_held (held old) (held new) x s

    least : (n j : ℕ) → Hopping (held old) n j → (x.steps < n) ⊎ ((x.steps ≡ n) × (x.link ≤ j))
    least n j i = ⊎_elim
        (λ p. inr (sym (ap (λ y. y.steps) p), (let z : j ≡ x.link = ap (λ y. y.link) p in omega arith)))
        (λ p. let (le, tie) = All-contains (StepsBefore x) (held new) _ (first W.order) p in
        elim (cases_lt x.steps n) [ inl lt ↦ inl lt | inr ge ↦ (let e : x.steps ≡ n = omega arith in inr (e, tie e)) ])
        (pop_keeps (held old) (held new) x _ s i)

    left : (n j : ℕ) → (j ≡ x.link → ⊥) → Hopping (held old) n j → Hopping (held new) n j
    left n j ne i = ⊎_elim (λ p. absurd (ne (ap (λ y. y.link) p))) (λ p. p) (pop_keeps (held old) (held new) x _ s i)

    -- the entry is of a link of the network
    pub hop_holds : (l : Link) × Holds net x.link l
    hop_holds = let (l, c, h, T, e, z) = W.running.origin x.steps x.link here in (l, h)

    -- with one step more than the last, at most
    pub hop_short : x.steps + (length (held new) + links_open net (place steps)) ≤ length net.places
    hop_short =
        let (l, c, h, T, e, z) = W.running.origin x.steps x.link here in
        let a = W.running.behind l.head c e in
        let b = W.left in
        let c = length_permutation _ _ s in
        omega arith

    module _ (l : Link) (h : Holds net x.link l) where
      pub hop_inside : (l.tail < length steps) × (l.tail < length nexts)
      hop_inside = let z = (N.sound x.link l h).0 in let a = W.nodes in let b = W.next_nodes in (omega arith, omega arith)

      -- its tail has its steps
      pub walking_skip : (a : ℕ) → place steps l.tail ≡ Some a → Walking ρ net t steps nexts new
      walking_skip a e = record {
        order = H W.order;
        nodes = W.nodes;
        next_nodes = W.next_nodes;
        room = (let a = W.room in omega arith);
        last = W.last;
        left = (let a = length_permutation _ _ s in let b = W.left in omega arith);
        running = skips ρ net t (place steps) (place nexts) (Hopping (held old)) (λ k l. Unit {0}) W.last W.running x.steps x.link l h here (Hopping (held new)) least
            (λ n j i. pop_only (held old) (held new) x _ s i) left a e;
        idle = W.idle;
      }

      -- the other nodes without steps, and t, still have no next link
      still_idle : place steps l.tail ≡ None → NoNext t (place (set steps l.tail (Some x.steps))) (place (set nexts l.tail (Some x.link)))
      still_idle fresh = (
        get_or-set_other nexts l.tail t (Some x.link) None (λ q. not_both (place steps l.tail) 0 (ap (place steps) (sym q) ∙ W.running.none_at_t) fresh) ∙ W.idle.0,
        λ u e. elim (ℕ_discrete u l.tail) [
          | yes p ↦ absurd (not_both (place (set steps l.tail (Some x.steps)) u) x.steps
              (ap (place (set steps l.tail (Some x.steps))) p ∙ get_or-set_same steps l.tail (Some x.steps) None hop_inside.0) e)
          | no n ↦ get_or-set_other nexts l.tail u (Some x.link) None n ∙ W.idle.1 u (sym (get_or-set_other steps l.tail u (Some x.steps) None n) ∙ e)
        ],
      )

      -- its tail gets its steps and its next link
      pub walking_settle : (after : Heap Hop) → place steps l.tail ≡ None → (now : List (Option ℕ)) → now ≡ set steps l.tail (Some x.steps) →
          (i : ℕ) → i ≡ l.tail → HopOffering ρ net d (place now) (record { node = l.tail; steps = x.steps }) new after 0 →
          Walking ρ net t now (set nexts i (Some x.link)) after
      walking_settle after fresh now is i at O =
          subst (λ j. Walking ρ net t now (set nexts j (Some x.link)) after) (sym at) (settled O)
        where
          settled : HopOffering ρ net d (place now) (record { node = l.tail; steps = x.steps }) new after 0 → Walking ρ net t now (set nexts l.tail (Some x.link)) after
          settled = subst (λ xs. HopOffering ρ net d (place xs) (record { node = l.tail; steps = x.steps }) new after 0 → Walking ρ net t xs (set nexts l.tail (Some x.link)) after) (sym is) (λ O.
              counted (record { node = l.tail; steps = x.steps }) steps (set nexts l.tail (Some x.link)) new after hop_inside.0 fresh W.nodes (simp length-set W.next_nodes)
              (let a = W.room in omega arith) hop_short (still_idle fresh) O
              (settles ρ net t (place steps) (place nexts) (Hopping (held old)) (λ k l. Unit {0}) W.last W.running x.steps x.link l h here (Hopping (held new)) least
              (λ n j i. pop_only (held old) (held new) x _ s i) left (place (set steps l.tail (Some x.steps))) (place (set nexts l.tail (Some x.link))) fresh
              (get_or-set_same steps l.tail (Some x.steps) None hop_inside.0) (get_or-set_same nexts l.tail (Some x.link) None hop_inside.1)
              (λ y ne. get_or-set_other steps l.tail y (Some x.steps) None ne) (λ y ne. get_or-set_other nexts l.tail y (Some x.link) None ne) (λ k l. tt)))

      -- and there is less to do
      pub count_less : (after : Heap Hop) → place steps l.tail ≡ None → (now : List (Option ℕ)) → now ≡ set steps l.tail (Some x.steps) →
          HopOffering ρ net d (place now) (record { node = l.tail; steps = x.steps }) new after 0 →
          length (held after) + links_open net (place now) < length (held old) + links_open net (place steps)
      count_less after fresh now is O =
          let a = settle_room net steps l.tail x.steps hop_inside.0 fresh in
          let b = O.few in
          let c = length_permutation _ _ s in
          let e : links_open net (place now) ≡ links_open net (place (set steps l.tail (Some x.steps))) = ap (λ xs. links_open net (place xs)) is in
          omega arith

  -- at the end nothing waits
  pub walking_end : (steps nexts : List (Option ℕ)) (heap : Heap Hop) → Walking ρ net t steps nexts heap → held heap ≡ [] → Nexts ρ net t (place steps) (place nexts)
  walking_end steps nexts heap W e =
      ends ρ net t (place steps) (place nexts) (Hopping (held heap)) (λ k l. Unit {0}) W.last W.running (λ n k i. contains_none (held heap) _ e i) (λ k l. tt)
