-- A sheet of labels for a network, found by computing, and a test that says that it is right.
use Rattle.std.proofs.Common.{◌≡◌, ℕ, zero, suc, Bool, true, false, not, ◌&&◌, ◌||◌, eqb, leb, List, [], ◌∷◌, Some, None, Option, sym, refl, ap, ◌∙◌, subst, inl, inr, arith}
use native.Mathlib.Decide.{ℕ_discrete}
use Rattle.std.proofs.lemmas.Option.{none-some}
use Rattle.std.proofs.lemmas.Bool.{and_parts, or_cases, eqb-true, eq-eqb, leb-true, both_ways}
use Rattle.definitions.specs.declared.Link.{Link}
use Rattle.definitions.specs.Networks.{Net, Holds, place}
use Rattle.definitions.specs.Measures.{Scale}
use Rattle.definitions.specs.Searches.{given, LabelChain, Labels, Nexts}
use Rattle.definitions.proofs.Fixpoint.{Lawful}
use Rattle.definitions.proofs.Following.{tight_labels, labels_tight}
use Rattle.definitions.proofs.Lawfuls.{Value}
use Rattle.definitions.proofs.Givens.{made, made_via, via_made}

-- tests on what may be there
abbrev pub none_or : {X : Type 0} → Option X → (X → Bool) → Bool
none_or None f = true
none_or (Some x) f = f x

abbrev pub some_and : {X : Type 0} → Option X → (X → Bool) → Bool
some_and None f = false
some_and (Some x) f = f x

pub none_or_at : {X : Type 0} (o : Option X) (f : X → Bool) (x : X) → none_or o f ≡ true → o ≡ Some x → f x ≡ true
none_or_at o f x h e = subst (λ z. none_or z f ≡ true) e h

pub some_and_at : {X : Type 0} (o : Option X) (f : X → Bool) → some_and o f ≡ true → (x : X) × (o ≡ Some x) × (f x ≡ true)
some_and_at None f h = absurd (both_ways false refl h)
some_and_at (Some x) f h = (x, refl, h)

-- each entry of a list passes, with its number
abbrev pub every : {X : Type 0} → (ℕ → X → Bool) → List (Option X) → Bool
every f [] = true
every f (p ∷ ps) = none_or p (f 0) && every (λ k. f (suc k)) ps

pub every_at : {X : Type 0} (f : ℕ → X → Bool) (ps : List (Option X)) (k : ℕ) (x : X) → every f ps ≡ true → place ps k ≡ Some x → f k x ≡ true
every_at f [] k x h e = absurd (none-some x e)
every_at f (p ∷ ps) zero x h e = none_or_at p (f 0) x (and_parts _ _ h).0 e
every_at f (p ∷ ps) (suc k) x h e = every_at (λ j. f (suc j)) ps k x (and_parts _ _ h).1 e

-- The labels of the nodes: values, steps and next links.
pub record Sheet : Type 0 where
  pub values : List (Option ℕ)
  pub steps : List (Option ℕ)
  pub nexts : List (Option ℕ)

either_not : (a x : Bool) → (not a || x) ≡ true → a ≡ true → x ≡ true
either_not true x h e = h
either_not false x h e = absurd (both_ways false refl e)

module _ (m : Scale) (net : Net) (t : ℕ) (r : ℕ → Option ℕ) (sh : Sheet) where
  abbrev val : ℕ → Option ℕ
  val u = place sh.values u

  abbrev stp : ℕ → Option ℕ
  stp u = place sh.steps u

  abbrev nxt : ℕ → Option ℕ
  nxt u = place sh.nexts u

  -- the tests, one for each thing that the searches end with
  abbrev relaxed? : ℕ → Link → Bool
  relaxed? k l = eqb l.tail t || none_or (val l.head) (λ b. none_or (made m r k l b) (λ w. some_and (val l.tail) (λ a. m.no_worse a w)))

  abbrev stepped? : ℕ → ℕ → Bool
  stepped? u a = some_and (stp u) (λ n. true)

  abbrev taken? : ℕ → ℕ → Bool
  taken? u n =
      eqb u t || some_and (nxt u) (λ k. some_and (place net.places k) (λ l. eqb l.tail u &&
      (some_and (val l.head) (λ b. some_and (made m r k l b) (λ w. some_and (val u) (λ a. eqb a w))) &&
      some_and (stp l.head) (λ c. eqb n (suc c)))))

  abbrev offered? : ℕ → Link → Bool
  offered? k l =
      eqb l.tail t || none_or (val l.head) (λ b. none_or (made m r k l b) (λ w. none_or (val l.tail) (λ a. not (eqb a w) ||
      none_or (stp l.head) (λ n. some_and (stp l.tail) (λ c. leb c (suc n) && (not (eqb c (suc n)) || none_or (nxt l.tail) (λ j. leb j k)))))))

  abbrev pub right? : Bool
  right? =
      some_and (val t) (λ a. eqb a m.start) && (some_and (stp t) (λ n. eqb n 0) &&
      (every relaxed? net.places && (every stepped? sh.values && (every taken? sh.steps && every offered? net.places))))

  pub record Right : Type 0 where
    pub starts : some_and (val t) (λ a. eqb a m.start) ≡ true
    pub zero_steps : some_and (stp t) (λ n. eqb n 0) ≡ true
    pub relaxed : every relaxed? net.places ≡ true
    pub stepped : every stepped? sh.values ≡ true
    pub taken : every taken? sh.steps ≡ true
    pub offered : every offered? net.places ≡ true

  pub right : right? ≡ true → Right
  right ok =
      let (a, p) = and_parts _ _ ok in
      let (b, q) = and_parts _ _ p in
      let (c, x) = and_parts _ _ q in
      let (d, s) = and_parts _ _ x in
      let (e, f) = and_parts _ _ s in
      record { starts = a; zero_steps = b; relaxed = c; stepped = d; taken = e; offered = f }

  apart : (a b : ℕ) (x : Bool) → (eqb a b || x) ≡ true → (a ≡ b → ⊥) → x ≡ true
  apart a b x h n = elim (or_cases (eqb a b) x h) [ inl e ↦ absurd (n (eqb-true a b e)) | inr e ↦ e ]

  module _ (R : Right) where
    -- the link that was taken at a node
    abbrev Taken : ℕ → ℕ → Type 0
    Taken u n = (k : ℕ) × (l : Link) × (b : ℕ) × (a : ℕ) × (c : ℕ) × (nxt u ≡ Some k) × Holds net k l × (l.tail ≡ u) ×
        (val l.head ≡ Some b) × (val u ≡ Some a) × (given m r).via k l b a × (stp l.head ≡ Some c) × (n ≡ suc c)

    taken_at : (u n : ℕ) → stp u ≡ Some n → (u ≡ t → ⊥) → Taken u n
    taken_at u n e away =
        let h = apart u t _ (every_at taken? sh.steps u n R.taken e) away in
        let (k, ek, h1) = some_and_at (nxt u) _ h in
        let (l, el, h2) = some_and_at (place net.places k) _ h1 in
        let (ht, h3) = and_parts (eqb l.tail u) _ h2 in
        let (hm, hs) = and_parts _ _ h3 in
        let (b, eb, h4) = some_and_at (val l.head) _ hm in
        let (w, ew, h5) = some_and_at (made m r k l b) _ h4 in
        let (a, ea, h6) = some_and_at (val u) _ h5 in
        let (c, ec, h7) = some_and_at (stp l.head) _ hs in
        let aw : a ≡ w = eqb-true a w h6 in
        (k, l, b, a, c, ek, el, eqb-true l.tail u ht, eb, ea, subst (λ x. (given m r).via k l b x) (sym aw) (made_via m r k l b w ew), ec, eqb-true n (suc c) h7)

    chain : (n u : ℕ) → stp u ≡ Some n → (ks : List ℕ) × LabelChain (given m r) net t val u ks
    chain n u e = go n u e (ℕ_discrete u t)
      where
        go : (n u : ℕ) → stp u ≡ Some n → Dec (u ≡ t) → (ks : List ℕ) × LabelChain (given m r) net t val u ks
        go n u e (yes p) = ([], p)
        go zero u e (no q) = let (k, l, b, a, c, ek, el, et, eb, ea, mk, ec, z) = taken_at u 0 e q in absurd (omega arith)
        go (suc n) u e (no q) =
            let (k, l, b, a, c, ek, el, et, eb, ea, mk, ec, z) = taken_at u (suc n) e q in
            let cn : c ≡ n = omega arith in
            let (ks, r) = go n l.head (ec ∙ ap Some cn) (ℕ_discrete l.head t) in
            (k ∷ ks, (l, b, a, el, et, q, eb, ea, mk, r))

    pub sheet_labels : Labels (given m r) net t val
    sheet_labels = record {
      at_t = (let (a, ea, h) = some_and_at (val t) _ R.starts in ea ∙ ap Some (eqb-true a m.start h));
      relaxed = λ k l b w h n db q.
          let x = apart l.tail t _ (every_at relaxed? net.places k l R.relaxed h) n in
          let y = none_or_at (val l.head) _ b x db in
          let z = none_or_at (made m r k l b) _ w y (via_made m r k l b w q) in
          some_and_at (val l.tail) _ z;
      met = λ u a e. let (n, en, _) = some_and_at (stp u) _ (every_at stepped? sh.values u a R.stepped e) in ∣ chain n u en ∣₁;
    }

    pub sheet_nexts : Lawful (given m r) net Value → Nexts (given m r) net t stp nxt
    sheet_nexts L = record {
      none_at_t = (let (n, en, h) = some_and_at (stp t) _ R.zero_steps in en ∙ ap Some (eqb-true n 0 h));
      offered = λ k l n h T e.
          let (b, a, db, da, q) = labels_tight (given m r) net t Value L val sheet_labels k l T in
          let x = apart l.tail t _ (every_at offered? net.places k l R.offered h) T.elsewhere in
          let y = none_or_at (val l.head) _ b x db in
          let z = none_or_at (made m r k l b) _ a y (via_made m r k l b a q) in
          let p = none_or_at (val l.tail) _ a z da in
          let p' = either_not (eqb a a) _ p (eq-eqb a a refl) in
          let o = none_or_at (stp l.head) _ n p' e in
          let (c, ec, o') = some_and_at (stp l.tail) _ o in
          let (le, lo) = and_parts (leb c (suc n)) _ o' in
          (c, ec, leb-true c (suc n) le, λ j same ej. leb-true j k (none_or_at (nxt l.tail) _ j (either_not (eqb c (suc n)) _ lo (eq-eqb c (suc n) same)) ej));
      taken = λ u a e n.
          let (k, l, b, v, c, ek, el, et, eb, ea, mk, ec, z) = taken_at u a e n in
          (k, l, c, ek, el, et, tight_labels (given m r) net t Value L val sheet_labels k l b v (λ p. n (sym et ∙ p)) eb (ap val et ∙ ea) mk, ec, z);
    }
