-- Plain values, worst values and counts of tight links are lawful.
use Rattle.std.proofs.Common.{◌≡◌, ℕ, suc, ◌^◌, ◌<◌, Bool, true, false, cond, ◌⊎◌, refl, inl, inr, le_antisymm, arith}
use mathlib.Core.HLevel.{Unit-prop}
use native.Mathlib.Bridge.{le_prop}
use Rattle.std.proofs.lemmas.Bool.{both_ways, leb-true, le-leb, cases_lt}
use Rattle.definitions.specs.declared.Link.{Link}
use Rattle.definitions.specs.Networks.{Net, Holds, Limits, at_risk, risks}
use Rattle.definitions.specs.Measures.{Scale, Laws, worse}
use Rattle.definitions.specs.Routes.{Valuation, count_tight}
use Rattle.definitions.specs.Plans.{plain, worst, Recovery}
use Rattle.definitions.proofs.Fixpoint.{Lawful, best_fits, best_one}
use Rattle.definitions.proofs.Layers.{without_limits}

abbrev pub Value : ℕ → Type 0
Value v = v < 2 ^ 64

module _ (m : Scale) (M : Laws m) where
  pub worse_fits : (a b : ℕ) → Value a → Value b → Value (worse m a b)
  worse_fits a b p q = elim (m.no_worse a b) as (λ x. Value (cond x b a)) [ true ↦ q | false ↦ p ]

  self : (a : ℕ) → Value a → m.no_worse a a ≡ true
  self a p = elim (M.one_is a a p p) [ inl h ↦ h | inr h ↦ h ]

  -- the worse of two is no better than either, and the best of what is
  pub worse_left : (a b : ℕ) → Value a → Value b → m.no_worse a (worse m a b) ≡ true
  worse_left a b p q = go (m.no_worse a b) refl
    where
      go : (x : Bool) → m.no_worse a b ≡ x → m.no_worse a (cond x b a) ≡ true
      go true e = e
      go false e = self a p

  pub worse_right : (a b : ℕ) → Value a → Value b → m.no_worse b (worse m a b) ≡ true
  worse_right a b p q = go (m.no_worse a b) refl
    where
      go : (x : Bool) → m.no_worse a b ≡ x → m.no_worse b (cond x b a) ≡ true
      go true e = self b q
      go false e = elim (M.one_is a b p q) [ inl h ↦ absurd (both_ways _ e h) | inr h ↦ h ]

  pub worse_least : (a b c : ℕ) → m.no_worse a c ≡ true → m.no_worse b c ≡ true → m.no_worse (worse m a b) c ≡ true
  worse_least a b c p q = elim (m.no_worse a b) as (λ x. m.no_worse (cond x b a) c ≡ true) [ true ↦ q | false ↦ p ]

  pub worse_one : (a b : ℕ) → (worse m a b ≡ a) ⊎ (worse m a b ≡ b)
  worse_one a b = elim (m.no_worse a b) as (λ x. (cond x b a ≡ a) ⊎ (cond x b a ≡ b)) [ true ↦ inr refl | false ↦ inl refl ]

  pub worse_keeps : (r a b : ℕ) → Value r → Value a → Value b → m.no_worse a b ≡ true → m.no_worse (worse m r a) (worse m r b) ≡ true
  worse_keeps r a b pr pa pb h =
      worse_least r a (worse m r b) (worse_left r b pr pb)
      (M.chains a b (worse m r b) pa pb (worse_fits r b pr pb) h (worse_right r b pr pb))

  pub plain_lawful : (net : Net) → Limits net → Lawful (plain m) net Value
  plain_lawful net N = record {
    fit_prop = λ v. le_prop;
    start_fits = M.start_fits;
    via_fits = λ k l v w h f e. rw e (M.extend_fits v l.figure f (N.sound k l h).3);
    one_is = M.one_is;
    chains = M.chains;
    equal = M.equal;
    keeps = λ k l a b v w h fa fb le p q. rw (p, q) (M.keeps a b l.figure fa fb (N.sound k l h).3 le);
    never_better = λ k l v w h f e. rw e (M.never_better v l.figure f (N.sound k l h).3);
    via_any = λ k l a b v h fa fb p. (m.extend b l.figure, refl);
  }

  -- Values by the worse of what stands for a link, where that is one value and fits.
  abbrev pub by_worse : (ℕ → Link → ℕ → Type 0) → Valuation
  by_worse For = record { start = m.start; via = λ k l v w. (x : ℕ) × For k l x × (w ≡ worse m x (m.extend v l.figure)); no_worse = m.no_worse }

  pub worse_lawful : (net : Net) → Limits net → (For : ℕ → Link → ℕ → Type 0) → ((k : ℕ) (l : Link) (x : ℕ) → Holds net k l → For k l x → Value x) →
      ((k : ℕ) (l : Link) (x y : ℕ) → For k l x → For k l y → x ≡ y) → Lawful (by_worse For) net Value
  worse_lawful net N For fits one = record {
    fit_prop = λ v. le_prop;
    start_fits = M.start_fits;
    via_fits = λ k l v w h f (x, X, p). rw p (worse_fits x (m.extend v l.figure) (fits k l x h X) (M.extend_fits v l.figure f (N.sound k l h).3));
    one_is = M.one_is;
    chains = M.chains;
    equal = M.equal;
    keeps = λ k l a b v w h fa fb le (x, X, p) (y, Y, q).
        let f = (N.sound k l h).3 in
        let e : w ≡ worse m x (m.extend b l.figure) = rw (one k l x y X Y) q in
        rw (p, e) (worse_keeps x (m.extend a l.figure) (m.extend b l.figure) (fits k l x h X)
        (M.extend_fits a l.figure fa f) (M.extend_fits b l.figure fb f) (M.keeps a b l.figure fa fb f le));
    never_better = λ k l v w h fv (x, X, p).
        let f = (N.sound k l h).3 in
        let y = m.extend v l.figure in
        let fy = M.extend_fits v l.figure fv f in
        let fx = fits k l x h X in
        rw p (M.chains v y (worse m x y) fv fy (worse_fits x y fx fy) (M.never_better v l.figure fv f) (worse_right x y fx fy));
    via_any = λ k l a b v h fa fb (x, X, p). (worse m x (m.extend b l.figure), (x, X, refl));
  }

  module _ (net : Net) (N : Limits net) (t : ℕ) where
    pub recovery_fits : (k : ℕ) (l : Link) (r : ℕ) → Recovery m net t k l r → Value r
    recovery_fits k l r R = best_fits (plain m) (at_risk k net) t Value (plain_lawful (at_risk k net) (without_limits (risks net k) net N)) l.tail r R

    pub recovery_one : (k : ℕ) (l : Link) (r s : ℕ) → Recovery m net t k l r → Recovery m net t k l s → r ≡ s
    recovery_one k l r s R S = best_one (plain m) (at_risk k net) t Value (plain_lawful (at_risk k net) (without_limits (risks net k) net N)) l.tail r s R S

    pub worst_lawful : Lawful (worst m net t) net Value
    worst_lawful = worse_lawful net N (Recovery m net t) (λ k l r h R. recovery_fits k l r R) recovery_one

abbrev pub Any : ℕ → Type 0
Any n = Unit {0}

pub count_lawful : (ρ : Valuation) (net : Net) (t : ℕ) → Lawful (count_tight ρ net t) net Any
count_lawful ρ net t = record {
  fit_prop = λ v. Unit-prop;
  start_fits = tt;
  via_fits = λ k l v w h f e. tt;
  one_is = λ a b p q. elim (cases_lt a b) [ inl h ↦ inl (le-leb a b (omega arith)) | inr h ↦ inr (le-leb b a h) ];
  chains = λ a b c fa fb fc p q. le-leb a c (omega (arith, leb-true a b p, leb-true b c q));
  equal = λ a b fa fb p q. le_antisymm (leb-true a b p) (leb-true b a q);
  keeps = λ k l a b v w h fa fb le p q. le-leb v w (omega (arith, leb-true a b le, p.1, q.1));
  never_better = λ k l v w h f e. le-leb v w (omega (arith, e.1));
  via_any = λ k l a b v h fa fb p. (suc b, (p.0, refl));
}
