-- Steps, next links and held routes, from the labels that two searches end with.
use Rattle.std.proofs.Common.{◌≡◌, ℕ, zero, suc, pred, List, [], ◌∷◌, length, Some, None, Option, sym, refl, ap, ◌∙◌, subst, inl, inr, arith}
use mathlib.Core.Logic.{∥∥₁_elim}
use mathlib.Core.HLevel.{⊥_prop}
use native.Mathlib.Decide.{ℕ_discrete}
use Rattle.std.proofs.lemmas.Option.{none-some}
use Rattle.std.proofs.lemmas.Bool.{le-leb, cases_order}
use Rattle.definitions.specs.declared.Link.{Link}
use Rattle.definitions.specs.Networks.{Net}
use Rattle.definitions.specs.Routes.{Valuation, Route, RouteValue, Best, Tight, count_tight, Steps, Next, Held}
use Rattle.definitions.specs.Searches.{LabelChain, Labels, Nexts}
use Rattle.definitions.proofs.Fixpoint.{Lawful, past_start, best_one, label_best, best_label, label_bound}
use Rattle.definitions.proofs.Lawfuls.{count_lawful, Any}
use Rattle.definitions.proofs.Layers.{same_at}

-- A route with a value is a route.
pub value_route : (ρ : Valuation) (net : Net) (t u : ℕ) (ks : List ℕ) (w : ℕ) → RouteValue ρ net t u ks w → Route net t u ks
value_route ρ net t u [] w (p, q) = p
value_route ρ net t u (k ∷ ks) w (l, v, h, e, r, m) = (l, h, e, value_route ρ net t l.head ks v r)

module _ (ρ : Valuation) (net : Net) (t : ℕ) where
  -- the steps and the next link are one
  pub steps_one : (u a b : ℕ) → Steps ρ net t u a → Steps ρ net t u b → a ≡ b
  steps_one u a b A B = best_one (count_tight ρ net t) net t Any (count_lawful ρ net t) u a b A B

  pub next_one : (u k j : ℕ) (l i : Link) → Next ρ net t u k l → Next ρ net t u j i → k ≡ j
  next_one u k j l i K J =
      let e : suc K.left ≡ suc J.left = steps_one u _ _ K.steps J.steps in
      let e' : K.left ≡ J.left = omega arith in
      elim (cases_order k j) [
        | inl p ↦ p
        | inr (inl p) ↦ absurd (J.lowest k l p K.holds K.starts K.tight (subst (λ n. Steps ρ net t l.head n) e' K.fewer))
        | inr (inr p) ↦ absurd (K.lowest j i p J.holds J.starts J.tight (subst (λ n. Steps ρ net t i.head n) (sym e') J.fewer))
      ]

  -- no next link at t
  pub next_away : (u k : ℕ) (l : Link) → Next ρ net t u k l → u ≡ t → ⊥
  next_away u k l K e = K.tight.elsewhere (K.starts ∙ e)

  pub held_one : (u : ℕ) (ks js : List ℕ) → Held ρ net t u ks → Held ρ net t u js → ks ≡ js
  held_one u [] [] p q = refl
  held_one u [] (j ∷ js) p (i, J, q) = absurd (next_away u j i J p)
  held_one u (k ∷ ks) [] (l, K, p) q = absurd (next_away u k l K q)
  held_one u (k ∷ ks) (j ∷ js) (l, K, p) (i, J, q) =
      let e = next_one u k j l i K J in
      let f = same_at net j k i l (sym e) J.holds K.holds in
      let q' : Held ρ net t l.head js = subst (λ x. Held ρ net t x.head js) f q in
      let r = held_one l.head ks js p q' in
      cc

  -- a held route has as many links as its node has steps
  pub steps_held : (u : ℕ) (ks : List ℕ) → Held ρ net t u ks → Steps ρ net t u (length ks)
  steps_held u [] p = record { reached = ∣ ([], (p, refl)) ∣₁; unbeaten = λ ks v r. le-leb 0 v (omega arith) }
  steps_held u (k ∷ ks) (l, K, p) =
      let e : K.left ≡ length ks = steps_one l.head K.left (length ks) K.fewer (steps_held l.head ks p) in
      subst (λ n. Steps ρ net t u (suc n)) e K.steps

  module _ (Fit : ℕ → Type 0) (L : Lawful ρ net Fit) where
    pub start_best : Best ρ net t t ρ.start
    start_best = record { reached = ∣ ([], (refl, refl)) ∣₁; unbeaten = λ ks v r. past_start ρ net t Fit L t ks v r }

    pub best_at_end : (u a : ℕ) → u ≡ t → Best ρ net t u a → a ≡ ρ.start
    best_at_end u a p B = best_one ρ net t Fit L t a ρ.start (subst (λ x. Best ρ net t x a) p B) start_best

    -- the held route of a node has the node's best value
    pub held_value : (u : ℕ) (ks : List ℕ) (a : ℕ) → Best ρ net t u a → Held ρ net t u ks → RouteValue ρ net t u ks a
    held_value u [] a B p = (p, best_at_end u a p B)
    held_value u (k ∷ ks) a B (l, K, p) =
        let T = K.tight in
        let e : T.own ≡ a = best_one ρ net t Fit L u T.own a (subst (λ x. Best ρ net t x T.own) K.starts T.best_own) B in
        (l, T.beyond, K.holds, K.starts, held_value l.head ks T.beyond T.best_beyond p, subst (λ x. ρ.via k l T.beyond x) e T.exact)

    module _ (d : ℕ → Option ℕ) (S : Labels ρ net t d) where
      -- tight, by the labels
      pub tight_labels : (k : ℕ) (l : Link) (b a : ℕ) → (l.tail ≡ t → ⊥) → d l.head ≡ Some b → d l.tail ≡ Some a → ρ.via k l b a → Tight ρ net t k l
      tight_labels k l b a n p q m = record {
        elsewhere = n;
        beyond = b;
        best_beyond = label_best ρ net t Fit L d S l.head b p;
        own = a;
        best_own = label_best ρ net t Fit L d S l.tail a q;
        exact = m;
      }

      pub labels_tight : (k : ℕ) (l : Link) → Tight ρ net t k l → (b : ℕ) × (a : ℕ) × (d l.head ≡ Some b) × (d l.tail ≡ Some a) × ρ.via k l b a
      labels_tight k l T = (
        T.beyond,
        T.own,
        best_label ρ net t Fit L d S l.head T.beyond T.best_beyond,
        best_label ρ net t Fit L d S l.tail T.own T.best_own,
        T.exact,
      )

      -- the chain that meets its labels is one of tight links
      chain_count : (u : ℕ) (ks : List ℕ) → LabelChain ρ net t d u ks → RouteValue (count_tight ρ net t) net t u ks (length ks)
      chain_count u [] p = (p, refl)
      chain_count u (k ∷ ks) (l, b, a, h, e, n, db, da, m, rest) =
          (l, length ks, h, e, chain_count l.head ks rest, (tight_labels k l b a (λ p. n (sym e ∙ p)) db (ap d e ∙ da) m, refl))

      module _ (s nx : ℕ → Option ℕ) (X : Nexts ρ net t s nx) where
        count_chain : (a u : ℕ) → s u ≡ Some a → (ks : List ℕ) × LabelChain (count_tight ρ net t) net t s u ks
        count_chain a u e = go a u e (ℕ_discrete u t)
          where
            go : (a u : ℕ) → s u ≡ Some a → Dec (u ≡ t) → (ks : List ℕ) × LabelChain (count_tight ρ net t) net t s u ks
            go a u e (yes p) = ([], p)
            go zero u e (no n) = let (k, l, c, q, h, f, T, g, z) = X.taken u 0 e n in absurd (omega arith)
            go (suc a) u e (no n) =
                let (k, l, c, q, h, f, T, g, z) = X.taken u (suc a) e n in
                let g' : s l.head ≡ Some a = rw (ap Some (let y : a ≡ c = omega arith in y)) g in
                let (ks, r) = go a l.head g' (ℕ_discrete l.head t) in
                (k ∷ ks, (l, a, suc a, h, f, n, g', e, (T, refl), r))

        pub count_labels : Labels (count_tight ρ net t) net t s
        count_labels = record {
          at_t = X.none_at_t;
          relaxed = λ k l b w h n db T.
              let (a, da, le, lo) = X.offered k l b h T.0 db in
              (a, da, le-leb a w (omega (arith, T.1)));
          met = λ u a e. ∣ count_chain a u e ∣₁;
        }

        pub steps_label : (u a : ℕ) → s u ≡ Some a → Steps ρ net t u a
        steps_label u a e = label_best (count_tight ρ net t) net t Any (count_lawful ρ net t) s count_labels u a e

        pub label_steps : (u a : ℕ) → Steps ρ net t u a → s u ≡ Some a
        label_steps u a e = best_label (count_tight ρ net t) net t Any (count_lawful ρ net t) s count_labels u a e

        -- the link that was taken is the next link
        pub next_label : (u a : ℕ) → s u ≡ Some a → (u ≡ t → ⊥) → (k : ℕ) × (l : Link) × (nx u ≡ Some k) × Next ρ net t u k l × (s l.head ≡ Some (pred a))
        next_label u a e n =
            let (k, l, c, q, h, f, T, g, z) = X.taken u a e n in
            let e' : s u ≡ Some (suc c) = rw (ap Some z) at e in (
              k,
              l,
              q,
              record {
                holds = h;
                starts = f;
                tight = T;
                left = c;
                steps = steps_label u (suc c) e';
                fewer = steps_label l.head c g;
                lowest = λ j i lt hj fj Tj sj.
                    let (a', da, le, lo) = X.offered j i c hj Tj (label_steps i.head c sj) in
                    let du : s u ≡ Some a' = subst (λ x. s x ≡ Some a') fj da in
                    let y : a' ≡ suc c = cc in
                    let nj : nx i.tail ≡ Some k = ap nx fj ∙ q in
                    omega (arith, lo k y nj);
              },
              (let w : pred a ≡ c = omega arith in g ∙ ap Some (sym w)),
            )

        -- every node with a value has steps
        pub value_steps : (u a : ℕ) → d u ≡ Some a → (n : ℕ) × (s u ≡ Some n)
        value_steps u a e = go (s u) refl
          where
            go : (o : Option ℕ) → s u ≡ o → (n : ℕ) × (s u ≡ Some n)
            go (Some n) q = (n, q)
            go None q =
                absurd (∥∥₁_elim (S.met u a e) ⊥_prop (λ c.
                let (n, sn, le) = label_bound (count_tight ρ net t) net t Any (count_lawful ρ net t) s count_labels u c.0 (length c.0) (chain_count u c.0 c.1) in
                none-some n (sym q ∙ sn)))

        -- and a held route
        pub held_from : (n u : ℕ) → s u ≡ Some n → (ks : List ℕ) × Held ρ net t u ks
        held_from n u e = go n u e (ℕ_discrete u t)
          where
            go : (n u : ℕ) → s u ≡ Some n → Dec (u ≡ t) → (ks : List ℕ) × Held ρ net t u ks
            go n u e (yes p) = ([], p)
            go zero u e (no q) = let (k, l, c, _, h, f, T, g, z) = X.taken u 0 e q in absurd (omega arith)
            go (suc n) u e (no q) =
                let (k, l, _, K, g) = next_label u (suc n) e q in
                let (ks, r) = go n l.head g (ℕ_discrete l.head t) in
                (k ∷ ks, (l, K, r))

        -- so every node with a best value has a held route
        pub best_held : (u a : ℕ) → Best ρ net t u a → (ks : List ℕ) × Held ρ net t u ks
        best_held u a B = let (n, e) = value_steps u a (best_label ρ net t Fit L d S u a B) in held_from n u e
