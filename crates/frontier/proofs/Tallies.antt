-- Counts of links.
use Rattle.std.proofs.Common.{◌≡◌, ℕ, ◌+◌, ◌<◌, ◌≤◌, Bool, true, false, cond, not, List, [], ◌∷◌, length, take, is_some, Some, None, Option, sym, refl, ap, ◌∙◌, subst, arith}
use native.Mathlib.Decide.{ℕ_discrete}
use Rattle.std.specs.List.{count_by}
use Rattle.std.proofs.lemmas.Bool.{eq-eqb, ne_eqb}
use Rattle.std.proofs.lemmas.List.{take_all, take-take}
use Rattle.std.proofs.lemmas.List.Sums.{sum_by-cons, sum_by-take-le, count_by_more_yes}
use Rattle.definitions.specs.declared.Link.{Link}
use Rattle.definitions.specs.Networks.{Net, Holds}
use Rattle.frontier.specs.Progress.{leads_to, leads_on, links_into, links_open}

-- fewer places hold no more links into u
pub into_front : (net : Net) (u i n : ℕ) → i ≤ n → links_into net u i ≤ links_into net u n
into_front net u i n le =
    subst (λ xs. count_by (leads_to u) xs ≤ links_into net u n) (take-take i n net.places le) (sum_by-take-le (λ p. cond (leads_to u p) 1 0) (take n net.places) i)

-- a link into u is one more
pub into_hit : (net : Net) (u k : ℕ) (l : Link) → k < length net.places → Holds net k l → l.head ≡ u → links_into net u (k + 1) ≡ links_into net u k + 1
into_hit net u k l lt h e = count_by_more_yes (leads_to u) net.places k None lt (rw h (eq-eqb l.head u e))

-- a test that splits in two
pub count_by_split : {X : Type 0} (f g h : X → Bool) → ((x : X) → ◌≡◌ {A = ℕ} (cond (f x) 1 0) (cond (g x) 1 0 + cond (h x) 1 0)) →
    (xs : List X) → count_by f xs ≡ count_by g xs + count_by h xs
count_by_split f g h e [] = refl
count_by_split f g h e (x ∷ xs) =
    let a = e x in
    let b = count_by_split f g h e xs in
    let c = sum_by-cons (λ y. cond (f y) 1 0) x xs in
    let d = sum_by-cons (λ y. cond (g y) 1 0) x xs in
    let i = sum_by-cons (λ y. cond (h y) 1 0) x xs in
    omega arith

-- a node gets its label: the links into it are open no more
pub open_less : (net : Net) (u v : ℕ) (d d' : ℕ → Option ℕ) → d u ≡ None → d' u ≡ Some v → ((x : ℕ) → (x ≡ u → ⊥) → d' x ≡ d x) →
    links_open net d ≡ links_open net d' + links_into net u (length net.places)
open_less net u v d d' fresh here rest =
    count_by_split (leads_on d) (leads_on d') (leads_to u) go net.places
    ∙ ap (λ xs. links_open net d' + count_by (leads_to u) xs) (sym (take_all (length net.places) net.places (omega arith)))
  where
    go : (p : Option Link) → ◌≡◌ {A = ℕ} (cond (leads_on d p) 1 0) (cond (leads_on d' p) 1 0 + cond (leads_to u p) 1 0)
    go None = refl
    go (Some l) = elim (ℕ_discrete l.head u) [
      | yes p ↦ (
          let a : d l.head ≡ None = ap d p ∙ fresh in
          let b : d' l.head ≡ Some v = ap d' p ∙ here in
          let c = eq-eqb l.head u p in
          rw (a, b, c))
      | no n ↦ (
          let a = rest l.head n in
          let c = ne_eqb l.head u n in
          rw (a, c) (last (is_some (d l.head))))
    ]
      where
        last : (b : Bool) → ◌≡◌ {A = ℕ} (cond (not b) 1 0) (cond (not b) 1 0 + cond false 1 0)
        last true = refl
        last false = refl
