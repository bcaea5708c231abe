-- The steps of the search for the best values, over any heap.
use Rattle.std.proofs.Common.{◌≡◌, ℕ, true, ◌⊎◌, List, [], ◌∷◌, Some, None, Option, sym, refl, ap, ◌∙◌, subst, inl, inr}
use mathlib.Core.Bool.{Bool-set}
use mathlib.Core.Logic.{∥∥₁_elim, ∥∥₁_map, ∥∥₁_prop}
use native.Mathlib.Decide.{ℕ_discrete}
use Rattle.std.proofs.lemmas.Option.{none-some}
use Rattle.definitions.specs.declared.Link.{Link}
use Rattle.definitions.specs.Networks.{Net, Holds}
use Rattle.definitions.specs.Routes.{Valuation}
use Rattle.definitions.specs.Searches.{LabelChain, Labels, Running}
use Rattle.definitions.proofs.Fixpoint.{Lawful, itself, met_fits}
use Rattle.definitions.proofs.Layers.{so_at}

-- no node has both a label and none
pub not_both : (o : Option ℕ) (a : ℕ) → o ≡ Some a → o ≡ None → ⊥
not_both o a p q = none-some a (sym q ∙ p)

-- a chain stays when a node without a label gets one
pub chain_grow : (ρ : Valuation) (net : Net) (t : ℕ) (d d' : ℕ → Option ℕ) → ((u a : ℕ) → d u ≡ Some a → d' u ≡ Some a) →
    (u : ℕ) (ks : List ℕ) → LabelChain ρ net t d u ks → LabelChain ρ net t d' u ks
chain_grow ρ net t d d' f u [] p = p
chain_grow ρ net t d d' f u (k ∷ ks) (l, b, a, h, e, n, db, da, m, rest) =
    (l, b, a, h, e, n, f l.head b db, f u a da, m, chain_grow ρ net t d d' f l.head ks rest)

module _ (ρ : Valuation) (net : Net) (t : ℕ) (Fit : ℕ → Type 0) (L : Lawful ρ net Fit) where
  -- fewer links need be due
  pub fewer_due : (done : ℕ → Option ℕ) (In : ℕ → ℕ → Type 0) (Due Due' : ℕ → Link → Type 0) (last : ℕ) →
      ((k : ℕ) (l : Link) → Holds net k l → Due' k l → Due k l) → Running ρ net t done In Due last → Running ρ net t done In Due' last
  fewer_due done In Due Due' last f R = record {
    at_t = R.at_t;
    met = R.met;
    newest = R.newest;
    behind = R.behind;
    ahead = R.ahead;
    origin = R.origin;
    kept = λ k l b w a h du. R.kept k l b w a h (f k l h du);
    waits = λ k l b w h du. R.waits k l b w h (f k l h du);
  }

  -- at the start t alone is settled, and no link into t has been offered
  pub begins : (done : ℕ → Option ℕ) → done t ≡ Some ρ.start → ((u : ℕ) → (u ≡ t → ⊥) → done u ≡ None) →
      Running ρ net t done (λ w u. ⊥) (λ k l. l.head ≡ t → ⊥) ρ.start
  begins done e o = record {
    at_t = e;
    met = λ u a q. ∣ ([], only u a q) ∣₁;
    newest = ∣ (t, e) ∣₁;
    behind = λ u a q. let z : ρ.start ≡ a = (let y : done u ≡ Some ρ.start = ap done (only u a q) ∙ e in cc) in subst (λ x. ρ.no_worse x ρ.start ≡ true) z (itself ρ net t Fit L ρ.start L.start_fits);
    ahead = λ w u q. absurd q;
    origin = λ w u q. absurd q;
    kept = λ k l b w a h du n q. absurd (not_both (done l.head) b q (o l.head du));
    waits = λ k l b w h du n q. absurd (not_both (done l.head) b q (o l.head du));
  }
    where
      only : (u a : ℕ) → done u ≡ Some a → u ≡ t
      only u a q = elim (ℕ_discrete u t) [ yes p ↦ p | no n ↦ absurd (not_both (done u) a q (o u n)) ]

  module _ (done : ℕ → Option ℕ) (In : ℕ → ℕ → Type 0) (Due : ℕ → Link → Type 0) (last : ℕ) (R : Running ρ net t done In Due last) where
    pub done_fits : (u a : ℕ) → done u ≡ Some a → Fit a
    done_fits u a e = met_fits ρ net t Fit L done R.at_t u a e (R.met u a e)

    pub in_fits : (w u : ℕ) → In w u → Fit w
    in_fits w u i = ∥∥₁_elim (R.origin w u i) (L.fit_prop w) (λ c. L.via_fits c.0 c.1 c.2 w c.3 (done_fits c.1.head c.2 c.5) c.6)

    -- one link is offered: its head was settled last
    pub offers : (k : ℕ) (l : Link) → Holds net k l → done l.head ≡ Some last → (In' : ℕ → ℕ → Type 0) (Due' : ℕ → Link → Type 0) →
        ((w u : ℕ) → In w u → In' w u) → ((w u : ℕ) → In' w u → ∥ (In w u ⊎ ((u ≡ l.tail) × ρ.via k l last w)) ∥₁) →
        ((w : ℕ) → ρ.via k l last w → done l.tail ≡ None → In' w l.tail) →
        ((j : ℕ) (i : Link) → Due' j i → (j ≡ k → ⊥) → Due j i) → Running ρ net t done In' Due' last
    offers k l h hd In' Due' grow new put less = record {
      at_t = R.at_t;
      met = R.met;
      newest = R.newest;
      behind = R.behind;
      ahead = λ w u i. ∥∥₁_elim (new w u i) (Bool-set _ _) (λ s. elim s [
        | inl p ↦ R.ahead w u p
        | inr p ↦ L.never_better k l last w h (done_fits l.head last hd) p.1
      ]);
      origin = λ w u i. ∥∥₁_elim (new w u i) ∥∥₁_prop (λ s. elim s [
        | inl p ↦ R.origin w u p
        | inr p ↦ ∣ (k, l, last, h, sym p.0, hd, p.1) ∣₁
      ]);
      kept = λ j i b w a hj du n q mk e. elim (ℕ_discrete j k) [
        | no z ↦ R.kept j i b w a hj (less j i du z) n q mk e
        | yes z ↦ so_at net (λ j i. done i.head ≡ Some b → ρ.via j i b w → done i.tail ≡ Some a → ρ.no_worse a w ≡ true) j k i l z hj h (λ q mk e.
            let same : b ≡ last = cc in
            let fl = done_fits l.head last hd in
            let mk' : ρ.via k l last w = subst (λ x. ρ.via k l x w) same mk in
            L.chains a last w (done_fits l.tail a e) fl (L.via_fits k l last w h fl mk') (R.behind l.tail a e) (L.never_better k l last w h fl mk')) q mk e
      ];
      waits = λ j i b w hj du n q mk e. elim (ℕ_discrete j k) [
        | no z ↦ grow w i.tail (R.waits j i b w hj (less j i du z) n q mk e)
        | yes z ↦ so_at net (λ j i. done i.head ≡ Some b → ρ.via j i b w → done i.tail ≡ None → In' w i.tail) j k i l z hj h (λ q mk e.
            let same : b ≡ last = cc in
            put w (subst (λ x. ρ.via k l x w) same mk) e) q mk e
      ];
    }

    module _ (w u : ℕ) (here : In w u) (In' : ℕ → ℕ → Type 0) (least : (v x : ℕ) → In v x → ρ.no_worse w v ≡ true)
        (fewer : (v x : ℕ) → In' v x → In v x) (left : (v x : ℕ) → (x ≡ u → ⊥) → In v x → In' v x) where
      -- the least entry is of a node that is settled: it goes
      pub skips : (a : ℕ) → done u ≡ Some a → Running ρ net t done In' Due last
      skips a e = record {
        at_t = R.at_t;
        met = R.met;
        newest = R.newest;
        behind = R.behind;
        ahead = λ v x i. R.ahead v x (fewer v x i);
        origin = λ v x i. R.origin v x (fewer v x i);
        kept = R.kept;
        waits = λ k l b v h du n q mk z. left v l.tail (λ y. not_both (done l.tail) a (ap done y ∙ e) z) (R.waits k l b v h du n q mk z);
      }

      -- the least entry is of a node that is not: it is settled, and the links into it are to be offered
      pub settles : (done' : ℕ → Option ℕ) → done u ≡ None → done' u ≡ Some w → ((x : ℕ) → (x ≡ u → ⊥) → done' x ≡ done x) →
          ((k : ℕ) (l : Link) → Due k l) → Running ρ net t done' In' (λ k l. l.head ≡ u → ⊥) w
      settles done' fresh now rest due = record {
        at_t = keeps t ρ.start R.at_t;
        met = met';
        newest = ∣ (u, now) ∣₁;
        behind = λ x a e. elim (ℕ_discrete x u) [
          | yes p ↦
              let z : w ≡ a = cc in
              subst (λ y. ρ.no_worse y w ≡ true) z (itself ρ net t Fit L w fw)
          | no n ↦ old_behind x a (sym (rest x n) ∙ e)
        ];
        ahead = λ v x i. least v x (fewer v x i);
        origin = λ v x i. ∥∥₁_map (R.origin v x (fewer v x i)) (λ c. (c.0, c.1, c.2, c.3, c.4, keeps c.1.head c.2 c.5, c.6));
        kept = λ k l b v a h du n q mk e.
            let q' : done l.head ≡ Some b = sym (rest l.head du) ∙ q in
            elim (ℕ_discrete l.tail u) [
              | no z ↦ R.kept k l b v a h (due k l) n q' mk (sym (rest l.tail z) ∙ e)
              | yes z ↦
                  let wa : w ≡ a = cc in
                  let none : done l.tail ≡ None = ap done z ∙ fresh in
                  subst (λ y. ρ.no_worse y v ≡ true) wa (least v l.tail (R.waits k l b v h (due k l) n q' mk none))
            ];
        waits = λ k l b v h du n q mk e.
            let q' : done l.head ≡ Some b = sym (rest l.head du) ∙ q in
            let apart : l.tail ≡ u → ⊥ = λ z. not_both (done' l.tail) w (ap done' z ∙ now) e in
            left v l.tail apart (R.waits k l b v h (due k l) n q' mk (sym (rest l.tail apart) ∙ e));
      }
        where
          fw : Fit w
          fw = in_fits w u here

          keeps : (x a : ℕ) → done x ≡ Some a → done' x ≡ Some a
          keeps x a e = elim (ℕ_discrete x u) [ yes p ↦ absurd (not_both (done x) a e (ap done p ∙ fresh)) | no n ↦ rest x n ∙ e ]

          old_behind : (x a : ℕ) → done x ≡ Some a → ρ.no_worse a w ≡ true
          old_behind x a e =
              let fl : Fit last = ∥∥₁_elim R.newest (L.fit_prop last) (λ c. done_fits c.0 last c.1) in
              L.chains a last w (done_fits x a e) fl fw (R.behind x a e) (R.ahead w u here)

          away : u ≡ t → ⊥
          away p = not_both (done u) ρ.start (ap done p ∙ R.at_t) fresh

          met' : (x a : ℕ) → done' x ≡ Some a → ∥ ((ks : List ℕ) × LabelChain ρ net t done' x ks) ∥₁
          met' x a e = elim (ℕ_discrete x u) [
            | no n ↦ ∥∥₁_map (R.met x a (sym (rest x n) ∙ e)) (λ c. (c.0, chain_grow ρ net t done done' keeps x c.0 c.1))
            | yes p ↦ ∥∥₁_elim (R.origin w u here) ∥∥₁_prop (λ (k, l, b, h, tl, hd, mk). ∥∥₁_map (R.met l.head b hd) (λ c. (
              k ∷ c.0,
              (
                l,
                b,
                w,
                h,
                tl ∙ sym p,
                (λ z. away (sym p ∙ z)),
                keeps l.head b hd,
                ap done' p ∙ now,
                mk,
                chain_grow ρ net t done done' keeps l.head c.0 c.1,
              ),
            )))
          ]

  -- at the end the heap is empty
  pub ends : (done : ℕ → Option ℕ) (In : ℕ → ℕ → Type 0) (Due : ℕ → Link → Type 0) (last : ℕ) → Running ρ net t done In Due last →
      ((w u : ℕ) → In w u → ⊥) → ((k : ℕ) (l : Link) → Due k l) → Labels ρ net t done
  ends done In Due last R empty due = record {
    at_t = R.at_t;
    met = R.met;
    relaxed = λ k l b w h n db mk. go k l b w h n db mk (done l.tail) refl;
  }
    where
      go : (k : ℕ) (l : Link) (b w : ℕ) → Holds net k l → (l.tail ≡ t → ⊥) → done l.head ≡ Some b → ρ.via k l b w →
          (o : Option ℕ) → done l.tail ≡ o → (a : ℕ) × (done l.tail ≡ Some a) × (ρ.no_worse a w ≡ true)
      go k l b w h n db mk None e = absurd (empty w l.tail (R.waits k l b w h (due k l) n db mk e))
      go k l b w h n db mk (Some a) e = (a, e, R.kept k l b w a h (due k l) n db mk e)
