-- Walks along next links.
use Rattle.std.proofs.Common.{◌≡◌, ℕ, ◌+◌, ◌<◌, true, false, List, [], ◌∷◌, ◌++◌, length, fold, reverse, take, set, is_some, Some, None, Option, sym, refl, ap, ◌∙◌, subst, append_assoc, arith, length-append, length-take}
use mathlib.Core.List.{reverse-cons}
use Rattle.std.proofs.lemmas.List.{take_more_set}
use Rattle.std.proofs.lemmas.List.Sums.{fold-append}
use Rattle.definitions.specs.declared.Link.{Link}
use Rattle.definitions.specs.declared.Failure.{Failure}
use Rattle.definitions.specs.Networks.{Net, Holds, place, failed}
use Rattle.definitions.specs.Measures.{Scale}
use Rattle.definitions.specs.Routes.{Valuation, RouteValue, Held}
use Rattle.definitions.specs.Plans.{plain, worst, Traced, onward}
use Rattle.definitions.proofs.Layers.{same_link}
use Rattle.routes.specs.Records.{Leads}
use Rattle.routes.specs.Walks.{plain_value, extended, Spared}

pub nothing_there : {A X : Type 0} (o : Option A) (x : A) → o ≡ Some x → o ≡ None → X
nothing_there o x p q = let z : ◌≡◌ {A = ℕ} 0 1 = cc in absurd (omega arith)

pub spared_more : (net : Net) (f : Failure) (js : List ℕ) (k : ℕ) → Spared net f js → failed net f k ≡ false → Spared net f (js ++ (k ∷ []))
spared_more net f [] k s e = (e, tt)
spared_more net f (j ∷ js) k (a, s) e = (a, spared_more net f js k s e)

module _ (net : Net) (nx : ℕ → Option ℕ) where
  -- the first step of a way that is not over
  pub steps_on : (e u : ℕ) (js : List ℕ) → 0 < length js → Leads net nx e u js →
      (k : ℕ) × (l : Link) × (is : List ℕ) × (js ≡ k ∷ is) × (nx u ≡ Some k) × Holds net k l × Leads net nx e l.head is
  steps_on e u [] lt P = absurd (omega arith)
  steps_on e u (k ∷ is) lt (l, n, h, P) = (k, l, is, refl, n, h, P)

  -- places are still to be written
  pub more_to_write : (e u i : ℕ) (places js ks : List ℕ) → Leads net nx e u js → take i places ++ js ≡ ks → length ks ≡ length places → i < length places →
      (k : ℕ) × (l : Link) × (is : List ℕ) × (js ≡ k ∷ is) × (nx u ≡ Some k) × Holds net k l × Leads net nx e l.head is
  more_to_write e u i places js ks P q z lt =
      let a : length (take i places ++ js) ≡ length ks = ap length q in
      let b : length (take i places) ≡ i = simp length-take (omega arith) in
      let c = length-append (take i places) js in
      steps_on e u js (omega arith) P

  pub wrote_more : (e u i k : ℕ) (l : Link) (places js ks : List ℕ) → nx u ≡ Some k → Holds net k l → Leads net nx e u js → take i places ++ js ≡ ks → length ks ≡ length places → i < length places →
      (is : List ℕ) × Leads net nx e l.head is × (take (i + 1) (set places i k) ++ is ≡ ks)
  wrote_more e u i k l places js ks n h P q z lt =
      let (j, o, is, ej, nj, hj, Q) = more_to_write e u i places js ks P q z lt in
      let kj : j ≡ k = cc in
      let ol : o ≡ l = same_link net k o l (subst (λ x. Holds net x o) kj hj) h in
      let a = take_more_set places i k lt in (
        is,
        subst (λ x. Leads net nx e x.head is) ol Q,
        ap (λ x. x ++ is) a ∙ (append_assoc (take i places) (k ∷ []) is ∙ (ap (λ x. take i places ++ (x ∷ is)) (sym kj) ∙ (ap (λ x. take i places ++ x) (sym ej) ∙ q))),
      )

  -- one more link to the end of a way
  pub leads_more : (u v k : ℕ) (l : Link) (js : List ℕ) → Leads net nx v u js → nx v ≡ Some k → Holds net k l → Leads net nx l.head u (js ++ (k ∷ []))
  leads_more u v k l [] p n h = (l, ap nx p ∙ n, h, refl)
  leads_more u v k l (j ∷ js) (i, m, g, P) n h = (i, m, g, leads_more i.head v k l js P n h)

  -- a way that is not at its end goes on
  pub goes_on : (e u : ℕ) (js : List ℕ) → (u ≡ e → ⊥) → Leads net nx e u js →
      (k : ℕ) × (l : Link) × (is : List ℕ) × (js ≡ k ∷ is) × (nx u ≡ Some k) × Holds net k l × Leads net nx e l.head is
  goes_on e u [] ne p = absurd (ne p)
  goes_on e u (k ∷ is) ne (l, n, h, P) = (k, l, is, refl, n, h, P)

  -- one link further along a way
  pub walk_more : (f : Failure) (t u v k : ℕ) (l : Link) (ks js is : List ℕ) → (v ≡ t → ⊥) → nx v ≡ Some k → Holds net k l → failed net f k ≡ false →
      js ++ is ≡ ks → Leads net nx v u js → Leads net nx t v is → Spared net f js →
      (xs : List ℕ) × (ys : List ℕ) × (xs ++ ys ≡ ks) × Leads net nx l.head u xs × Leads net nx t l.head ys × (length xs ≡ length js + 1) × Spared net f xs
  walk_more f t u v k l ks js is ne n h ok q P Q s =
      let (j, o, ys, ej, nj, hj, Q') = goes_on t v is ne Q in
      let kj : j ≡ k = cc in
      let ol : o ≡ l = same_link net k o l (subst (λ x. Holds net x o) kj hj) h in (
        js ++ (k ∷ []),
        ys,
        append_assoc js (k ∷ []) ys ∙ (ap (λ x. js ++ (x ∷ ys)) (sym kj) ∙ (ap (λ x. js ++ x) (sym ej) ∙ q)),
        leads_more u v k l js P n h,
        subst (λ x. Leads net nx t x.head ys) ol Q',
        length-append js (k ∷ []),
        spared_more net f js k s ok,
      )

-- the figures from the last to the first make the plain value
pub plain_folded : (m : Scale) (net : Net) (xs : List ℕ) → fold (λ v k. extended m (place net.places k) v) m.start (reverse xs) ≡ plain_value m net xs
plain_folded m net [] = refl
plain_folded m net (k ∷ ks) =
    let f : ℕ → ℕ → ℕ = λ v j. extended m (place net.places j) v in
    ap (fold f m.start) (reverse-cons k ks) ∙ (fold-append f m.start (reverse ks) (k ∷ []) ∙ ap (extended m (place net.places k)) (plain_folded m net ks))

-- the value of the places of a route is its plain value
pub value_computed : (m : Scale) (net : Net) (t u : ℕ) (ks : List ℕ) (w : ℕ) → RouteValue (plain m) net t u ks w → w ≡ plain_value m net ks
value_computed m net t u [] w (p, q) = q
value_computed m net t u (k ∷ ks) w (l, v, h, e, W, q) = q ∙ (ap (λ x. m.extend x l.figure) (value_computed m net t l.head ks v W) ∙ sym (ap (λ o. extended m o (plain_value m net ks)) h))

-- a held route, cut where a walk ends
pub held_cut : (ρ : Valuation) (net : Net) (nx : ℕ → Option ℕ) (t v u : ℕ) (js is : List ℕ) → Held ρ net t u (js ++ is) → Leads net nx v u js → Held ρ net t v is
held_cut ρ net nx t v u [] is H p = subst (λ x. Held ρ net t x is) p H
held_cut ρ net nx t v u (k ∷ js) is (l, K, H) (i, n, h, P) =
    held_cut ρ net nx t v i.head js is (subst (λ x. Held ρ net t x.head (js ++ is)) (same_link net k l i K.holds h) H) P

-- a trace that follows the held route as far as it is spared, and then goes on
pub traced_turn : (m : Scale) (net : Net) (nx : ℕ → Option ℕ) (t v u : ℕ) (f : Failure) (js is bs : List ℕ) → Held (worst m net t) net t u (js ++ is) → Leads net nx v u js → Spared net f js →
    Traced m net t (failed net f) v bs → Traced m net t (failed net f) u (js ++ bs)
traced_turn m net nx t v u f [] is bs H p s T = subst (λ x. Traced m net t (failed net f) x bs) (sym p) T
traced_turn m net nx t v u f (k ∷ js) is bs (l, K, H) (i, n, h, P) (a, s) T =
    let z = same_link net k l i K.holds h in
    onward K a (subst (λ x. Traced m net t (failed net f) x.head (js ++ bs)) (sym z) (traced_turn m net nx t v i.head f js is bs (subst (λ x. Held (worst m net t) net t x.head (js ++ is)) z H) P s T))

pub some_there : {A : Type 0} (o : Option A) → is_some o ≡ true → (x : A) × (o ≡ Some x)
some_there None e = let z : ◌≡◌ {A = ℕ} 0 1 = cc in absurd (omega arith)
some_there (Some x) e = (x, refl)
