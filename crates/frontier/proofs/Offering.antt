-- A search for values, as it offers the places one by one.
use Rattle.std.proofs.Common.{◌≡◌, ℕ, ◌+◌, ◌<◌, ◌≤◌, Result, Ok, Err, List, ◌∷◌, length, Some, None, MatchResult, Option, sym, refl, ap, ◌∙◌, subst, inl, inr, arith}
use native.Mathlib.Decide.{ℕ_discrete}
use Rattle.std.specs.List.Sorted.{IsPermutation}
use Rattle.std.specs.List.{Contains}
use Rattle.std.proofs.lemmas.List.{get_or_past}
use Rattle.std.proofs.lemmas.Bool.{cases_lt, cond-true, lt-ltb}
use Rattle.definitions.specs.declared.Link.{Link}
use Rattle.definitions.specs.Networks.{Net, Holds, Limits, place}
use Rattle.definitions.specs.Measures.{Scale, Laws}
use Rattle.definitions.specs.Routes.{Valuation}
use Rattle.definitions.specs.Searches.{given, Running}
use Rattle.definitions.proofs.Fixpoint.{Lawful, via_one}
use Rattle.definitions.proofs.Layers.{same_link}
use Rattle.definitions.proofs.Settling.{fewer_due, offers, done_fits}
use Rattle.heap.proofs.Held.{push_keeps, push_holds, push_only}
use Rattle.frontier.specs.declared.entries.Candidate.{Candidate}
use Rattle.definitions.proofs.Lawfuls.{Value}
use Rattle.definitions.proofs.Givens.{given_lawful}
use Rattle.heap.specs.declared.Heap.{Heap}
use Rattle.heap.specs.Heaps.{Heaped}
use Rattle.heap.specs.Holds.{held, capacity}
use Rattle.std.proofs.lemmas.List.Sorted.{length_permutation}
use Rattle.frontier.specs.Orders.{ValueBefore}
use Rattle.frontier.specs.Offers.{Fitting, Offered}
use Rattle.std.specs.Prelude.{option_and_then}
use Rattle.frontier.specs.declared.index.Index.{Index}
use Rattle.frontier.specs.declared.index.LinksInto.{LinksInto}
use Rattle.frontier.specs.Progress.{Waiting, Due, Offering, links_into, above, Owns, Along}
use Rattle.frontier.specs.Indexes.{UpTo, Falling, Indexed, lower, Stepped}
use Rattle.frontier.proofs.Tallies.{into_front, into_hit}

-- a place that holds a link is one of the places
pub holds_inside : (net : Net) (k : ℕ) (l : Link) → Holds net k l → k < length net.places
holds_inside net k l h = elim (cases_lt k (length net.places)) [
  | inl lt ↦ lt
  | inr le ↦ (let e = get_or_past net.places k None le in let z : ◌≡◌ {A = ℕ} 0 1 = cc in absurd (omega arith))
]

pub not_both_links : (o : Option Link) (l : Link) → o ≡ Some l → o ≡ None → ⊥
not_both_links o l p q = let z : ◌≡◌ {A = ℕ} 0 1 = cc in omega arith

-- what was read at i = k
pub read_holds : (net : Net) (k i : ℕ) (l : Link) → i ≡ k → Some l ≡ place net.places i → Holds net k l
read_holds net k i l e q = ap (place net.places) (sym e) ∙ sym q

-- one place more, of which nothing is to be offered
pub due_more : (net : Net) (u k : ℕ) → ((l : Link) → Holds net k l → l.head ≡ u → ⊥) → (j : ℕ) (i : Link) → Holds net j i → Due u k j i → Due u (k + 1) j i
due_more net u k none j i h due e = elim (ℕ_discrete j k) [
  | yes p ↦ absurd (none i (subst (λ x. Holds net x i) p h) e)
  | no n ↦ (let z = due e in omega arith)
]

module _ (ρ : Valuation) (net : Net) (t : ℕ) (Fit : ℕ → Type 0) (L : Lawful ρ net Fit) (d : ℕ → Option ℕ) (from : Candidate) where
  -- at the end all links have been offered
  pub offered_all : (es : List Candidate) → Running ρ net t d (Waiting es) (Due from.node 0) from.value → Running ρ net t d (Waiting es) (λ k l. Unit {0}) from.value
  offered_all es R = fewer_due ρ net t Fit L d (Waiting es) _ _ from.value (λ k l h _ e. omega arith) R

  module _ (lab : d from.node ≡ Some from.value) (k : ℕ) (es : List Candidate) (R : Running ρ net t d (Waiting es) (Due from.node (k + 1)) from.value) where
    -- place k offers nothing
    pub offered_none : Offered ρ net d from k None → Running ρ net t d (Waiting es) (Due from.node k) from.value
    offered_none none = go (place net.places k) refl
      where
        go : (p : Option Link) → place net.places k ≡ p → Running ρ net t d (Waiting es) (Due from.node k) from.value
        go None e = fewer_due ρ net t Fit L d (Waiting es) _ _ from.value (due_more net from.node k (λ l h _. let z : ◌≡◌ {A = ℕ} 0 1 = cc in omega arith)) R
        go (Some l) e = elim (ℕ_discrete l.head from.node) [
          | no n ↦ fewer_due ρ net t Fit L d (Waiting es) _ _ from.value
              (due_more net from.node k (λ i h q. n (ap (λ x. x.head) (same_link net k l i e h) ∙ q))) R
          | yes p ↦ offers ρ net t Fit L d (Waiting es) (Due from.node (k + 1)) from.value R k l e (ap d p ∙ lab) (Waiting es) (Due from.node k)
              (λ w u i. i) (λ w u i. ∣ inl i ∣₁) (λ w mk free. absurd (none l w e p free mk)) (λ j i due n q. let z = due q in omega arith)
        ]

    -- place k offers the entry e, which the heap takes in
    pub offered_some : (e : Candidate) (es' : List Candidate) → Offered ρ net d from k (Some e) → IsPermutation (e ∷ es) es' →
        Running ρ net t d (Waiting es') (Due from.node k) from.value
    offered_some e es' (l, h, hd, tl, mk) s =
        offers ρ net t Fit L d (Waiting es) (Due from.node (k + 1)) from.value R k l h (ap d hd ∙ lab) (Waiting es') (Due from.node k)
        (λ w u i. push_keeps es es' e _ s i)
        (λ w u i. elim (push_only es es' e _ s i) [
          | inl p ↦ ∣ inr (ap (λ x. x.node) p ∙ sym tl, subst (λ x. ρ.via k l from.value x) (sym (ap (λ x. x.value) p)) mk) ∣₁
          | inr p ↦ ∣ inl p ∣₁
        ])
        (λ w mk' free.
        let one : e.value ≡ w = via_one ρ net t Fit L k l from.value e.value w h (done_fits ρ net t Fit L d (Waiting es) (Due from.node (k + 1)) from.value R from.node from.value lab) mk mk' in
        subst (Contains es') (λ i. record { value = one i; node = sym tl i }) (push_holds es es' e s))
        (λ j i due n q. let z = due q in omega arith)

-- no link into u lies between two bounds
abbrev pub NoneBetween : Net → ℕ → ℕ → ℕ → Type 0
NoneBetween net u low high = (j : ℕ) (i : Link) → Holds net j i → i.head ≡ u → low ≤ j → j < high → ⊥

pub due_down : (net : Net) (u low high : ℕ) → NoneBetween net u low high → (j : ℕ) (i : Link) → Holds net j i → Due u low j i → Due u high j i
due_down net u low high none j i h due e = elim (cases_lt j high) [ inl lt ↦ absurd (none j i h e (due e) lt) | inr le ↦ le ]

-- the heap, link by link
module _ (m : Scale) (M : Laws m) (r : ℕ → Option ℕ) (net : Net) (F : Fitting net r) (N : Limits net) (d : ℕ → Option ℕ) (from : Candidate) (old : Heap Candidate) where
  pub offering_start : Heaped (ValueBefore m) (held old) → Offering m r net d from old old (length net.places)
  offering_start H = record { order = H; few = omega arith; room = refl; offered = λ t lab R. R }

  -- there is no link between
  pub offering_down : (here : Heap Candidate) (low high : ℕ) → low ≤ high → NoneBetween net from.node low high →
      Offering m r net d from old here high → Offering m r net d from old here low
  offering_down here low high le none O = record {
    order = O.order;
    few = (let a = O.few in let b = into_front net from.node low high le in omega arith);
    room = O.room;
    offered = λ t lab R. fewer_due (given m r) net t Value (given_lawful m M net N t r F) d (Waiting (held here)) _ _ from.value
        (due_down net from.node low high none) (O.offered t lab R);
  }

  module _ (k : ℕ) (here : Heap Candidate) (O : Offering m r net d from old here (k + 1)) where
    pub offering_none : Offered (given m r) net d from k None → Offering m r net d from old here k
    offering_none none = record {
      order = O.order;
      few = (let a = O.few in let b = into_front net from.node k (k + 1) (omega arith) in omega arith);
      room = O.room;
      offered = λ t lab R. offered_none (given m r) net t Value (given_lawful m M net N t r F) d from lab k (held here) (O.offered t lab R) none;
    }

    pub offering_some : length (held old) + links_into net from.node (length net.places) ≤ capacity old →
        (e : Candidate) → Offered (given m r) net d from k (Some e) → {A B : Type 0} (b : Result A B) (new : Heap Candidate) →
        MatchResult b (λ _. IsPermutation (e ∷ held here) (held new)) (λ _. new ≡ here) → MatchResult b (λ _. length (held here) < capacity here) (λ _. length (held here) ≡ capacity here) →
        (Heaped (ValueBefore m) (held here) → Heaped (ValueBefore m) (held new)) → capacity new ≡ capacity here → Offering m r net d from old new k
    offering_some room e off (Ok _) new s _ H keeps = record {
      order = H O.order;
      few = (
          let a = O.few in
          let b = into_hit net from.node k off.0 (holds_inside net k off.0 off.1) off.1 off.2 in
          let c = length_permutation _ _ s in
          omega arith);
      room = keeps ∙ O.room;
      offered = λ t lab R. offered_some (given m r) net t Value (given_lawful m M net N t r F) d from lab k (held here) (O.offered t lab R) e (held new) off s;
    }
    offering_some room e off (Err _) new s full H keeps =
        let a = O.few in
        let b = into_hit net from.node k off.0 (holds_inside net k off.0 off.1) off.1 off.2 in
        let f = O.room in
        absurd (omega arith)

-- what the index covers
pub first_bound : (net : Net) (first next : ℕ → Option ℕ) (I : Indexed net first next) (u : ℕ) (o : Option ℕ) → o ≡ first u →
    (above o ≤ length net.places) × NoneBetween net u (above o) (length net.places) × Owns I.owner u o
first_bound net first next I u None e = (omega arith, (λ j i h q lo hi. subst (UpTo j) (ap first q ∙ sym e) (I.first_covers j i h)), tt)
first_bound net first next I u (Some k) e =
    let (lt, own) = I.first_owned u k (sym e) in
    (omega arith, (λ j i h q lo hi. let z : j ≤ k = subst (UpTo j) (ap first q ∙ sym e) (I.first_covers j i h) in omega arith), own)

pub next_bound : (net : Net) (first next : ℕ → Option ℕ) (I : Indexed net first next) (u k : ℕ) (o : Option ℕ) → I.owner k ≡ Some u → o ≡ next k →
    (above o ≤ k) × NoneBetween net u (above o) k × Owns I.owner u o
next_bound net first next I u k None own e = (omega arith, (λ j i h q lo hi. subst (UpTo j) (sym e) (I.next_covers u k j i own h q hi)), tt)
next_bound net first next I u k (Some j) own e =
    let own' = I.next_owned u k j own (sym e) in
    let lt = I.falls k j (sym e) in
    (omega arith, (λ j' i h q lo hi. let z : j' ≤ j = subst (UpTo j') (sym e) (I.next_covers u k j' i own h q hi) in omega arith), own')

-- a walk begins
pub along_start : (net : Net) (index : Index) (u : ℕ) (s : LinksInto) → s.index.now ≡ index → s.cursor ≡ place index.first u →
    Indexed net (place index.first) (place index.next) →
    (above s.cursor ≤ length net.places) × NoneBetween net u (above s.cursor) (length net.places) × Along net u s
along_start net index u s e q I =
    let here : Indexed net (place s.index.now.first) (place s.index.now.next) = subst (λ i. Indexed net (place i.first) (place i.next)) (sym e) I in
    let (le, none, own) = first_bound net _ _ here u s.cursor (q ∙ ap (λ i. place i.first u) (sym e)) in
    (le, none, (here, own))

-- a place that is below j stays
lower_at : (j : ℕ) (o : Option ℕ) → ((i : ℕ) → o ≡ Some i → i < j) → lower j o ≡ o
lower_at j None below = refl
lower_at j (Some i) below = cond-true _ _ _ (lt-ltb i j (below i refl))

lower_next : (next : ℕ → Option ℕ) → Falling next → (o : Option ℕ) → option_and_then (λ j. lower j (next j)) o ≡ option_and_then next o
lower_next next falls None = refl
lower_next next falls (Some j) = lower_at j (next j) (falls j)

-- and goes on
pub along_step : (net : Net) (u k : ℕ) (s t : LinksInto) → Along net u s → Stepped s (Some k) t →
    (above s.cursor ≡ k + 1) × (above t.cursor ≤ k) × NoneBetween net u (above t.cursor) k × Along net u t
along_step net u k s t (I, own) (is, same, then) =
    let (le, none, rest) = next_bound net _ _ I u k t.cursor (subst (Owns I.owner u) (sym is) own) (then ∙ lower_next _ I.falls s.cursor ∙ ap (option_and_then (place s.index.now.next)) (sym is)) in
    (ap above (sym is), le, none, subst (λ i. (J : Indexed net (place i.first) (place i.next)) × Owns J.owner u t.cursor) (sym same) (I, rest))
