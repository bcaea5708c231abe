-- A search for next links, as it offers the places one by one.
use Rattle.std.proofs.Common.{◌≡◌, ℕ, ◌+◌, ◌<◌, ◌≤◌, eqb, Result, Ok, Err, List, ◌∷◌, length, Some, None, Decides, MatchResult, Option, sym, refl, ap, ◌∙◌, subst, inl, inr, arith}
use native.Mathlib.Decide.{ℕ_discrete}
use Rattle.std.proofs.lemmas.Bool.{eqb-true, eq-eqb}
use Rattle.std.specs.List.Sorted.{IsPermutation}
use Rattle.std.specs.List.{Contains}
use Rattle.std.proofs.lemmas.List.Sorted.{length_permutation}
use Rattle.definitions.specs.declared.Link.{Link}
use Rattle.definitions.specs.Networks.{Net, place}
use Rattle.definitions.specs.Measures.{Scale, worse}
use Rattle.definitions.specs.Routes.{Valuation, Tight}
use Rattle.definitions.specs.Searches.{given, Labels, Stepping}
use Rattle.definitions.proofs.Fixpoint.{Lawful}
use Rattle.definitions.proofs.Following.{tight_labels, labels_tight}
use Rattle.definitions.proofs.Layers.{same_link}
use Rattle.definitions.proofs.Settling.{not_both}
use Rattle.definitions.proofs.Stepwise.{fewer_due, offers}
use Rattle.heap.specs.declared.Heap.{Heap}
use Rattle.heap.specs.Heaps.{Heaped}
use Rattle.heap.specs.Holds.{held, capacity}
use Rattle.heap.proofs.Held.{push_keeps, push_holds, push_only}
use Rattle.frontier.specs.declared.entries.Settled.{Settled}
use Rattle.frontier.specs.declared.entries.Hop.{Hop}
use Rattle.frontier.specs.Orders.{StepsBefore}
use Rattle.frontier.specs.Offers.{made}
use Rattle.frontier.specs.Progress.{Due, links_into, Hopping, HopOffering}
use Rattle.frontier.specs.Hops.{LabelTight, HopOffered}
use Rattle.frontier.proofs.Offering.{due_more, due_down, NoneBetween, holds_inside}
use Rattle.frontier.proofs.Tallies.{into_front, into_hit}

module _ (ρ : Valuation) (net : Net) (d s : ℕ → Option ℕ) (from : Settled) where
  module _ (Fit : ℕ → Type 0) (L : Lawful ρ net Fit) (t : ℕ) (nx : ℕ → Option ℕ) (S : Labels ρ net t d) (lab : s from.node ≡ Some from.steps)
      (k : ℕ) (es : List Hop) (R : Stepping ρ net t s nx (Hopping es) (Due from.node (k + 1)) from.steps) where
    -- place k offers nothing
    hopped_none : HopOffered ρ net d s from k None → Stepping ρ net t s nx (Hopping es) (Due from.node k) from.steps
    hopped_none none = go (place net.places k) refl
      where
        go : (p : Option Link) → place net.places k ≡ p → Stepping ρ net t s nx (Hopping es) (Due from.node k) from.steps
        go None e = fewer_due ρ net t s nx (Hopping es) _ _ from.steps (due_more net from.node k (λ l h _. let z : ◌≡◌ {A = ℕ} 0 1 = cc in omega arith)) R
        go (Some l) e = elim (ℕ_discrete l.head from.node) [
          | no n ↦ fewer_due ρ net t s nx (Hopping es) _ _ from.steps
              (due_more net from.node k (λ i h q. n (ap (λ x. x.head) (same_link net k l i e h) ∙ q))) R
          | yes p ↦ offers ρ net t s nx (Hopping es) (Due from.node (k + 1)) from.steps R k l e (ap s p ∙ lab) (Hopping es) (Due from.node k)
              (λ n j i. i) (λ n j i. inl i) (λ T free. absurd (none l e p free (labels_tight ρ net t Fit L d S k l T))) (λ j i due n q. let z = due q in omega arith)
        ]

    -- place k offers the hop e, which the heap takes in
    hopped_some : (e : Hop) (es' : List Hop) → HopOffered ρ net d s from k (Some e) → IsPermutation (e ∷ es) es' →
        Stepping ρ net t s nx (Hopping es') (Due from.node k) from.steps
    hopped_some e es' (l, h, hd, free, st, lk, (b, a, db, da, mk)) sh =
        let tight : Tight ρ net t k l = tight_labels ρ net t Fit L d S k l b a (λ q. not_both (s l.tail) 0 (ap s q ∙ R.none_at_t) free) db da mk in
        offers ρ net t s nx (Hopping es) (Due from.node (k + 1)) from.steps R k l h (ap s hd ∙ lab) (Hopping es') (Due from.node k)
        (λ n j i. push_keeps es es' e _ sh i)
        (λ n j i. elim (push_only es es' e _ sh i) [
          | inl p ↦ inr (ap (λ x. x.steps) p ∙ st, ap (λ x. x.link) p ∙ lk, tight)
          | inr p ↦ inl p
        ])
        (λ T _. subst (Contains es') (λ i. record { steps = st i; link = lk i }) (push_holds es es' e sh))
        (λ j i due n q. let z = due q in omega arith)

  module _ (old : Heap Hop) where
    pub hopping_start : Heaped StepsBefore (held old) → HopOffering ρ net d s from old old (length net.places)
    hopping_start H = record { order = H; few = omega arith; room = refl; offered = λ t nx S lab R. R }

    -- there is no link between
    pub hopping_down : (here : Heap Hop) (low high : ℕ) → low ≤ high → NoneBetween net from.node low high →
        HopOffering ρ net d s from old here high → HopOffering ρ net d s from old here low
    hopping_down here low high le none O = record {
      order = O.order;
      few = (let a = O.few in let b = into_front net from.node low high le in omega arith);
      room = O.room;
      offered = λ t nx S lab R. fewer_due ρ net t s nx (Hopping (held here)) _ _ from.steps (due_down net from.node low high none) (O.offered t nx S lab R);
    }

    module _ (Fit : ℕ → Type 0) (L : Lawful ρ net Fit) (k : ℕ) (here : Heap Hop) (O : HopOffering ρ net d s from old here (k + 1)) where
      pub hopping_none : HopOffered ρ net d s from k None → HopOffering ρ net d s from old here k
      hopping_none none = record {
        order = O.order;
        few = (let a = O.few in let b = into_front net from.node k (k + 1) (omega arith) in omega arith);
        room = O.room;
        offered = λ t nx S lab R. hopped_none Fit L t nx S lab k (held here) (O.offered t nx S lab R) none;
      }

      pub hopping_some : length (held old) + links_into net from.node (length net.places) ≤ capacity old →
          (e : Hop) → HopOffered ρ net d s from k (Some e) → {A B : Type 0} (b : Result A B) (new : Heap Hop) →
          MatchResult b (λ _. IsPermutation (e ∷ held here) (held new)) (λ _. new ≡ here) → MatchResult b (λ _. length (held here) < capacity here) (λ _. length (held here) ≡ capacity here) →
          (Heaped StepsBefore (held here) → Heaped StepsBefore (held new)) → capacity new ≡ capacity here → HopOffering ρ net d s from old new k
      hopping_some room e off (Ok _) new sh _ H keeps = record {
        order = H O.order;
        few = (
            let a = O.few in
            let b = into_hit net from.node k off.0 (holds_inside net k off.0 off.1) off.1 off.2 in
            let c = length_permutation _ _ sh in
            omega arith);
        room = keeps ∙ O.room;
        offered = λ t nx S lab R. hopped_some Fit L t nx S lab k (held here) (O.offered t nx S lab R) e (held new) off sh;
      }
      hopping_some room e off (Err _) new sh full H keeps =
          let a = O.few in
          let b = into_hit net from.node k off.0 (holds_inside net k off.0 off.1) off.1 off.2 in
          let f = O.room in
          absurd (omega arith)

-- The test of a tight link by the labels: is what the link makes the label at its tail?
pub meeting_test : (m : Scale) (r d : ℕ → Option ℕ) (k : ℕ) (l : Link) (b a w : ℕ) → d l.head ≡ Some b → d l.tail ≡ Some a →
    made m (r k) l.figure b ≡ Some w → Decides (eqb w a) (LabelTight (given m r) d k l)
meeting_test m r d k l b a w db da mk = (
  (λ e. let q = eqb-true w a e in let (x, ex, p) = makes (r k) refl mk in (b, a, db, da, (x, ex, sym q ∙ p))),
  λ (b', a', db', da', (x', ex', p')).
      let (x, ex, p) = makes (r k) refl mk in
      let bb : b' ≡ b = cc in
      let aa : a ≡ a' = cc in
      let xx : x' ≡ x = cc in
      let pp : a' ≡ worse m x (m.extend b l.figure) = subst (λ y. a' ≡ worse m y (m.extend b l.figure)) xx (subst (λ y. a' ≡ worse m x' (m.extend y l.figure)) bb p') in
      eq-eqb w a (p ∙ (sym pp ∙ sym aa)),
)
  where
    makes : (o : Option ℕ) → r k ≡ o → made m o l.figure b ≡ Some w → (x : ℕ) × (r k ≡ Some x) × (w ≡ worse m x (m.extend b l.figure))
    makes None e q = let z : ◌≡◌ {A = ℕ} 0 1 = cc in absurd (omega arith)
    makes (Some x) e q = (x, e, (let z : w ≡ worse m x (m.extend b l.figure) = cc in z))
