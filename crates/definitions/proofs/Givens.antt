-- The searches run on given recovery values; from that to worst and to plain values.
use Rattle.std.proofs.Common.{◌≡◌, ℕ, true, List, [], ◌∷◌, Some, None, Option, sym, refl, ap, ◌∙◌}
use mathlib.Core.Bool.{Bool-set}
use mathlib.Core.HLevel.{⊥_prop}
use mathlib.Core.Logic.{∥∥₁_elim, ∥∥₁_map}
use Rattle.std.proofs.lemmas.Bool.{cond-true}
use Rattle.std.proofs.lemmas.Option.{none-some}
use Rattle.definitions.specs.declared.Link.{Link}
use Rattle.definitions.specs.Networks.{Net, Holds, Limits, at_risk}
use Rattle.definitions.specs.Measures.{Scale, Laws, worse}
use Rattle.definitions.specs.Routes.{Valuation, NoRoute, Tight}
use Rattle.definitions.specs.Plans.{plain, worst, Recovery}
use Rattle.definitions.specs.Searches.{given, LabelChain, Labels, Nexts}
use Rattle.definitions.proofs.Fixpoint.{Lawful, past_start, label_fits, chain_value}
use Rattle.definitions.proofs.Following.{tight_labels, labels_tight}
use Rattle.definitions.proofs.Lawfuls.{Value, worse_lawful, plain_lawful, worst_lawful, recovery_one, recovery_fits}

module _ (m : Scale) (M : Laws m) (net : Net) (N : Limits net) (t : ℕ) (r : ℕ → Option ℕ) where
  pub given_lawful : ((k : ℕ) (l : Link) (x : ℕ) → Holds net k l → r k ≡ Some x → Value x) → Lawful (given m r) net Value
  given_lawful F = worse_lawful m M net N (λ k l x. r k ≡ Some x) F (λ k l x y p q. cc)

-- What the link makes of the value b, by the recovery values r.
abbrev pub made : Scale → (ℕ → Option ℕ) → ℕ → Link → ℕ → Option ℕ
made m r k l b = elim (r k) [ None ↦ None | Some x ↦ Some (worse m x (m.extend b l.figure)) ]

pub made_via : (m : Scale) (r : ℕ → Option ℕ) (k : ℕ) (l : Link) (b w : ℕ) → made m r k l b ≡ Some w → (given m r).via k l b w
made_via m r k l b w e = go (r k) refl
  where
    go : (o : Option ℕ) → r k ≡ o → (given m r).via k l b w
    go None q = absurd (none-some w (rw (q, made) at e))
    go (Some x) q = (x, q, (let e' : ◌≡◌ {A = Option ℕ} (Some (worse m x (m.extend b l.figure))) (Some w) = rw (q, made) at e in cc))

pub via_made : (m : Scale) (r : ℕ → Option ℕ) (k : ℕ) (l : Link) (b w : ℕ) → (given m r).via k l b w → made m r k l b ≡ Some w
via_made m r k l b w (x, q, e) = rw (q, made) (ap Some (sym e))

-- Labels pass from one valuation to another of the same start and order, by which labelled heads make the same.
pub labels_over : (ρ σ : Valuation) (net : Net) (t : ℕ) (d : ℕ → Option ℕ) → ρ.start ≡ σ.start → ρ.no_worse ≡ σ.no_worse →
    ((k : ℕ) (l : Link) (b w : ℕ) → Holds net k l → d l.head ≡ Some b → ρ.via k l b w → σ.via k l b w) →
    ((k : ℕ) (l : Link) (b w : ℕ) → Holds net k l → d l.head ≡ Some b → σ.via k l b w → ρ.via k l b w) →
    Labels ρ net t d → Labels σ net t d
labels_over ρ σ net t d es eo to from S = record {
  at_t = S.at_t ∙ ap Some es;
  relaxed = λ k l b w h n db q. let (a, da, le) = S.relaxed k l b w h n db (from k l b w h db q) in (a, da, sym (ap (λ o. o a w) eo) ∙ le);
  met = λ u a e. ∥∥₁_map (S.met u a e) (λ c. (c.0, chain_over u c.0 c.1));
}
  where
    chain_over : (u : ℕ) (ks : List ℕ) → LabelChain ρ net t d u ks → LabelChain σ net t d u ks
    chain_over u [] p = p
    chain_over u (k ∷ ks) (l, b, a, h, e, n, db, da, q, rest) = (l, b, a, h, e, n, db, da, to k l b a h db q, chain_over l.head ks rest)

-- Next links pass along with the labels.
module _ (ρ σ : Valuation) (net : Net) (t : ℕ) (L : Lawful ρ net Value) (K : Lawful σ net Value) (d : ℕ → Option ℕ) (S : Labels ρ net t d) (Q : Labels σ net t d)
    (to : (k : ℕ) (l : Link) (b w : ℕ) → Holds net k l → d l.head ≡ Some b → ρ.via k l b w → σ.via k l b w)
    (from : (k : ℕ) (l : Link) (b w : ℕ) → Holds net k l → d l.head ≡ Some b → σ.via k l b w → ρ.via k l b w) where
  tight_to : (k : ℕ) (l : Link) → Holds net k l → Tight ρ net t k l → Tight σ net t k l
  tight_to k l h T =
      let (b, a, db, da, q) = labels_tight ρ net t Value L d S k l T in
      tight_labels σ net t Value K d Q k l b a T.elsewhere db da (to k l b a h db q)

  tight_from : (k : ℕ) (l : Link) → Holds net k l → Tight σ net t k l → Tight ρ net t k l
  tight_from k l h T =
      let (b, a, db, da, q) = labels_tight σ net t Value K d Q k l T in
      tight_labels ρ net t Value L d S k l b a T.elsewhere db da (from k l b a h db q)

  pub nexts_over : (s nx : ℕ → Option ℕ) → Nexts ρ net t s nx → Nexts σ net t s nx
  nexts_over s nx X = record {
    none_at_t = X.none_at_t;
    offered = λ k l n h T e. X.offered k l n h (tight_from k l h T) e;
    taken = λ u a e n. let (k, l, c, q, h, f, T, g, z) = X.taken u a e n in (k, l, c, q, h, f, tight_to k l h T, g, z);
  }

module _ (m : Scale) (M : Laws m) (net : Net) (N : Limits net) (t : ℕ) where
  -- The recovery values of a network: at each link r(k), and none where there is no route.
  pub record Recoveries (r : ℕ → Option ℕ) : Type 0 where
    pub some : (k : ℕ) (l : Link) (x : ℕ) → Holds net k l → r k ≡ Some x → Recovery m net t k l x
    pub none : (k : ℕ) (l : Link) → Holds net k l → r k ≡ None → NoRoute (plain m) (at_risk k net) t l.tail

  module _ (r : ℕ → Option ℕ) (R : Recoveries r) where
    pub recoveries_lawful : Lawful (given m r) net Value
    recoveries_lawful = given_lawful m M net N t r (λ k l x h e. recovery_fits m M net N t k l x (R.some k l x h e))

    pub given_via : (k : ℕ) (l : Link) (b w : ℕ) → Holds net k l → (given m r).via k l b w → (worst m net t).via k l b w
    given_via k l b w h (x, e, q) = (x, R.some k l x h e, q)

    pub worst_via : (k : ℕ) (l : Link) (b w : ℕ) → Holds net k l → (worst m net t).via k l b w → (given m r).via k l b w
    worst_via k l b w h (x, B, q) = go (r k) refl
      where
        go : (o : Option ℕ) → r k ≡ o → (given m r).via k l b w
        go (Some y) e = (y, e, q ∙ ap (λ z. worse m z (m.extend b l.figure)) (recovery_one m M net N t k l x y B (R.some k l y h e)))
        go None e = absurd (∥∥₁_elim B.reached ⊥_prop (λ c. R.none k l h e c.0 x c.1))

    -- labels by the recovery values are labels by worst values
    pub worst_labels : (d : ℕ → Option ℕ) → Labels (given m r) net t d → Labels (worst m net t) net t d
    worst_labels d S = labels_over (given m r) (worst m net t) net t d refl refl (λ k l b w h db. given_via k l b w h) (λ k l b w h db. worst_via k l b w h) S

    pub worst_nexts : (d s nx : ℕ → Option ℕ) → Labels (given m r) net t d → Nexts (given m r) net t s nx → Nexts (worst m net t) net t s nx
    worst_nexts d s nx S X =
        nexts_over (given m r) (worst m net t) net t recoveries_lawful (worst_lawful m M net N t) d S (worst_labels d S)
        (λ k l b w h db. given_via k l b w h) (λ k l b w h db. worst_via k l b w h) s nx X

  -- With the start for every link, labels are labels by plain values.
  module _ (r : ℕ → Option ℕ) (R : (k : ℕ) (l : Link) → Holds net k l → r k ≡ Some m.start) where
    pub starts_lawful : Lawful (given m r) net Value
    starts_lawful = given_lawful m M net N t r (λ k l x h e. let q : x ≡ m.start = (let s = R k l h in cc) in rw q M.start_fits)

    module _ (d : ℕ → Option ℕ) (S : Labels (given m r) net t d) where
      -- a label is no better than the start, so the start changes nothing
      start_idle : (k : ℕ) (l : Link) (b : ℕ) → Holds net k l → d l.head ≡ Some b → worse m m.start (m.extend b l.figure) ≡ m.extend b l.figure
      start_idle k l b h e =
          let fb = label_fits (given m r) net t Value starts_lawful d S l.head b e in
          let ff = (N.sound k l h).3 in
          let le : m.no_worse m.start b ≡ true = ∥∥₁_elim (S.met l.head b e) (Bool-set _ _) (λ c.
          past_start (given m r) net t Value starts_lawful l.head c.0 b (chain_value (given m r) net t Value starts_lawful d S.at_t l.head c.0 b e c.1)) in
          cond-true _ _ _ (M.chains m.start b (m.extend b l.figure) M.start_fits fb (M.extend_fits b l.figure fb ff) le (M.never_better b l.figure fb ff))

      idle_via : (k : ℕ) (l : Link) (b w : ℕ) → Holds net k l → d l.head ≡ Some b → (given m r).via k l b w → (plain m).via k l b w
      idle_via k l b w h e (x, ex, q) =
          let s = R k l h in
          let z : x ≡ m.start = cc in
          q ∙ (ap (λ y. worse m y (m.extend b l.figure)) z ∙ start_idle k l b h e)

      via_idle : (k : ℕ) (l : Link) (b w : ℕ) → Holds net k l → d l.head ≡ Some b → (plain m).via k l b w → (given m r).via k l b w
      via_idle k l b w h e q = (m.start, R k l h, q ∙ sym (start_idle k l b h e))

      pub plain_labels : Labels (plain m) net t d
      plain_labels = labels_over (given m r) (plain m) net t d refl refl idle_via via_idle S

      pub plain_nexts : (s nx : ℕ → Option ℕ) → Nexts (given m r) net t s nx → Nexts (plain m) net t s nx
      plain_nexts s nx X = nexts_over (given m r) (plain m) net t starts_lawful (plain_lawful m M net N) d S plain_labels idle_via via_idle s nx X
