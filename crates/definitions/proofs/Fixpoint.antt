-- Labels that no link betters, and that links meet, are the best values.
use Rattle.std.proofs.Common.{◌≡◌, ℕ, true, ◌⊎◌, List, [], ◌∷◌, Some, None, Option, sym, refl, ap, ◌∙◌, subst, inl, inr}
use mathlib.Core.Logic.{∥∥₁_elim, ∥∥₁_map}
use mathlib.Core.HLevel.{⊥_prop}
use native.Mathlib.Decide.{ℕ_discrete}
use mathlib.Core.Bool.{Bool-set}
use Rattle.std.proofs.lemmas.Option.{none-some}
use Rattle.definitions.specs.declared.Link.{Link}
use Rattle.definitions.specs.Networks.{Net, Holds}
use Rattle.definitions.specs.Routes.{Valuation, RouteValue, Best, NoRoute}
use Rattle.definitions.specs.Searches.{LabelChain, Labels}

-- What the searches need of a valuation, over a network: an order on the values that fit, kept by each link and never bettered.
pub record Lawful (ρ : Valuation) (net : Net) (Fit : ℕ → Type 0) : Type 0 where
  pub fit_prop : (v : ℕ) → IsProp (Fit v)
  pub start_fits : Fit ρ.start
  pub via_fits : (k : ℕ) (l : Link) (v w : ℕ) → Holds net k l → Fit v → ρ.via k l v w → Fit w
  pub one_is : (a b : ℕ) → Fit a → Fit b → (ρ.no_worse a b ≡ true) ⊎ (ρ.no_worse b a ≡ true)
  pub chains : (a b c : ℕ) → Fit a → Fit b → Fit c → (ρ.no_worse a b ≡ true) → (ρ.no_worse b c ≡ true) → (ρ.no_worse a c ≡ true)
  pub equal : (a b : ℕ) → Fit a → Fit b → (ρ.no_worse a b ≡ true) → (ρ.no_worse b a ≡ true) → a ≡ b
  pub keeps : (k : ℕ) (l : Link) (a b v w : ℕ) → Holds net k l → Fit a → Fit b → (ρ.no_worse a b ≡ true) → ρ.via k l a v → ρ.via k l b w → (ρ.no_worse v w ≡ true)
  pub never_better : (k : ℕ) (l : Link) (v w : ℕ) → Holds net k l → Fit v → ρ.via k l v w → (ρ.no_worse v w ≡ true)
  pub via_any : (k : ℕ) (l : Link) (a b v : ℕ) → Holds net k l → Fit a → Fit b → ρ.via k l a v → (w : ℕ) × ρ.via k l b w

module _ (ρ : Valuation) (net : Net) (t : ℕ) (Fit : ℕ → Type 0) (L : Lawful ρ net Fit) where
  pub itself : (a : ℕ) → Fit a → (ρ.no_worse a a ≡ true)
  itself a f = elim (L.one_is a a f f) [ inl h ↦ h | inr h ↦ h ]

  -- the value of a route fits, and is no better than the start
  pub value_fits : (u : ℕ) (ks : List ℕ) (w : ℕ) → RouteValue ρ net t u ks w → Fit w
  value_fits u [] w (p, q) = rw q L.start_fits
  value_fits u (k ∷ ks) w (l, v, h, e, r, m) = L.via_fits k l v w h (value_fits l.head ks v r) m

  pub past_start : (u : ℕ) (ks : List ℕ) (w : ℕ) → RouteValue ρ net t u ks w → (ρ.no_worse ρ.start w ≡ true)
  past_start u [] w (p, q) = rw q (itself ρ.start L.start_fits)
  past_start u (k ∷ ks) w (l, v, h, e, r, m) =
      let f = value_fits l.head ks v r in
      L.chains ρ.start v w L.start_fits f (L.via_fits k l v w h f m) (past_start l.head ks v r) (L.never_better k l v w h f m)

  -- a link makes one value of each value
  pub via_one : (k : ℕ) (l : Link) (v a b : ℕ) → Holds net k l → Fit v → ρ.via k l v a → ρ.via k l v b → a ≡ b
  via_one k l v a b h f p q =
      L.equal a b (L.via_fits k l v a h f p) (L.via_fits k l v b h f q)
      (L.keeps k l v v a b h f f (itself v f) p q) (L.keeps k l v v b a h f f (itself v f) q p)

  -- the best value is one
  pub best_fits : (u a : ℕ) → Best ρ net t u a → Fit a
  best_fits u a B = ∥∥₁_elim B.reached (L.fit_prop a) (λ c. value_fits u c.0 a c.1)

  pub best_one : (u a b : ℕ) → Best ρ net t u a → Best ρ net t u b → a ≡ b
  best_one u a b A B =
      L.equal a b (best_fits u a A) (best_fits u b B)
      (∥∥₁_elim B.reached (Bool-set _ _) (λ c. A.unbeaten c.0 b c.1))
      (∥∥₁_elim A.reached (Bool-set _ _) (λ c. B.unbeaten c.0 a c.1))

  -- a chain that meets its labels has the label for its value
  pub chain_value : (d : ℕ → Option ℕ) → d t ≡ Some ρ.start → (u : ℕ) (ks : List ℕ) (a : ℕ) → d u ≡ Some a → LabelChain ρ net t d u ks → RouteValue ρ net t u ks a
  chain_value d z u [] a e p = (p, (let q : d t ≡ Some a = subst (λ x. d x ≡ Some a) p e in cc))
  chain_value d z u (k ∷ ks) a e (l, b, a', h, f, n, db, da, m, rest) =
      let q : a' ≡ a = cc in
      (l, b, h, f, chain_value d z l.head ks b db rest, subst (λ x. ρ.via k l b x) q m)

  pub met_fits : (d : ℕ → Option ℕ) → d t ≡ Some ρ.start → (u a : ℕ) → d u ≡ Some a → ∥ ((ks : List ℕ) × LabelChain ρ net t d u ks) ∥₁ → Fit a
  met_fits d z u a e c = ∥∥₁_elim c (L.fit_prop a) (λ c. value_fits u c.0 a (chain_value d z u c.0 a e c.1))

  module _ (d : ℕ → Option ℕ) (S : Labels ρ net t d) where
    pub label_fits : (u a : ℕ) → d u ≡ Some a → Fit a
    label_fits u a e = met_fits d S.at_t u a e (S.met u a e)

    -- one more link: from the bound at its head to the bound at its tail
    bound_more : (k : ℕ) (l : Link) (v w : ℕ) → Holds net k l → (l.tail ≡ t → ⊥) → Fit v → ρ.via k l v w →
        ((b : ℕ) × (d l.head ≡ Some b) × (ρ.no_worse b v ≡ true)) → (a : ℕ) × (d l.tail ≡ Some a) × (ρ.no_worse a w ≡ true)
    bound_more k l v w h n fv m (b, db, le) =
        let fb = label_fits l.head b db in
        let (w', m') = L.via_any k l v b w h fv fb m in
        let (a, da, le') = S.relaxed k l b w' h n db m' in
        (a, da, L.chains a w' w (label_fits l.tail a da) (L.via_fits k l b w' h fb m') (L.via_fits k l v w h fv m) le' (L.keeps k l b v w' w h fb fv le m' m))

    -- no route has a better value than the label of its first node
    pub label_bound : (u : ℕ) (ks : List ℕ) (w : ℕ) → RouteValue ρ net t u ks w → (a : ℕ) × (d u ≡ Some a) × (ρ.no_worse a w ≡ true)
    label_bound u [] w (p, q) = (ρ.start, ap d p ∙ S.at_t, rw q (itself ρ.start L.start_fits))
    label_bound u (k ∷ ks) w (l, v, h, e, r, m) =
        go (label_bound l.head ks v r) (ℕ_discrete l.tail t)
      where
        go : ((b : ℕ) × (d l.head ≡ Some b) × (ρ.no_worse b v ≡ true)) → Dec (l.tail ≡ t) → (a : ℕ) × (d u ≡ Some a) × (ρ.no_worse a w ≡ true)
        go ih (yes p) = (ρ.start, ap d (sym e ∙ p) ∙ S.at_t, past_start u (k ∷ ks) w (l, v, h, e, r, m))
        go ih (no n) = subst (λ x. (a : ℕ) × (d x ≡ Some a) × (ρ.no_worse a w ≡ true)) e (bound_more k l v w h n (value_fits l.head ks v r) m ih)

    -- the label is the best value, and there is none exactly where no route has a value
    pub label_best : (u a : ℕ) → d u ≡ Some a → Best ρ net t u a
    label_best u a e = record {
      reached = ∥∥₁_map (S.met u a e) (λ c. (c.0, chain_value d S.at_t u c.0 a e c.1));
      unbeaten = λ ks v r. let (b, db, le) = label_bound u ks v r in let q : b ≡ a = cc in subst (λ x. (ρ.no_worse x v ≡ true)) q le;
    }

    pub label_none : (u : ℕ) → d u ≡ None → NoRoute ρ net t u
    label_none u e ks w r = let (b, db, le) = label_bound u ks w r in none-some b (sym e ∙ db)

    pub best_label : (u a : ℕ) → Best ρ net t u a → d u ≡ Some a
    best_label u a B = go (d u) refl
      where
        go : (o : Option ℕ) → d u ≡ o → d u ≡ Some a
        go None e = absurd (∥∥₁_elim B.reached ⊥_prop (λ c. label_none u e c.0 a c.1))
        go (Some b) e = e ∙ ap Some (best_one u b a (label_best u b e) B)
