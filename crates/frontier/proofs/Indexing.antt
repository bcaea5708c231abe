-- The index of a network, place by place.
use Rattle.std.proofs.Common.{◌≡◌, ℕ, ◌+◌, ◌<◌, ◌≤◌, Bool, List, length, set, Some, None, Option, sym, refl, ap, ◌∙◌, subst, arith}
use native.Mathlib.Decide.{ℕ_discrete}
use Rattle.definitions.specs.declared.Link.{Link}
use Rattle.definitions.specs.Networks.{Net, Holds, place, without}
use Rattle.definitions.proofs.Layers.{same_link, below, length_emptied}
use Rattle.definitions.proofs.Settling.{not_both}
use Rattle.frontier.specs.declared.index.Index.{Index}
use Rattle.frontier.specs.Indexes.{UpTo, Indexed}
use Rattle.frontier.specs.Progress.{head_of, IndexedBelow, Indexing}
use Rattle.frontier.proofs.Offering.{holds_inside}
use Rattle.std.proofs.lemmas.List.{get_or-set_same, get_or-set_other}

module _ (net : Net) where
  pub index_start : (first next : ℕ → Option ℕ) → ((u : ℕ) → first u ≡ None) → ((u : ℕ) → next u ≡ None) → IndexedBelow net first next 0
  index_start first next f n = record {
    first_owned = λ u j e. absurd (not_both (first u) j e (f u));
    falls = λ j i e. absurd (not_both (next j) i e (n j));
    next_owned = λ u j i o e. absurd (not_both (next j) i e (n j));
    first_covers = λ k l lt h. absurd (omega arith);
    next_covers = λ u j k l lt. absurd (omega arith);
  }

  pub index_end : (first next : ℕ → Option ℕ) (n : ℕ) → n ≡ length net.places → IndexedBelow net first next n → Indexed net first next
  index_end first next n le I = record {
    owner = λ j. head_of (place net.places j);
    first_owned = λ u j e. let (lt, o) = I.first_owned u j e in (omega arith, o);
    falls = I.falls;
    next_owned = I.next_owned;
    first_covers = λ k l h. I.first_covers k l (let z = holds_inside net k l h in omega arith) h;
    next_covers = λ u j k l o h q lt. I.next_covers u j k l (owned_inside u j o) o h q lt;
  }
    where
      owned_inside : (u j : ℕ) → head_of (place net.places j) ≡ Some u → j < n
      owned_inside u j o = go (place net.places j) refl o
        where
          go : (p : Option Link) → place net.places j ≡ p → head_of p ≡ Some u → j < n
          go None e q = let z : ◌≡◌ {A = ℕ} 0 1 = cc in absurd (omega arith)
          go (Some l) e q = let z = holds_inside net j l e in omega arith

  -- the place holds no link
  pub index_none : (first next : ℕ → Option ℕ) (k : ℕ) → place net.places k ≡ None → IndexedBelow net first next k → IndexedBelow net first next (k + 1)
  index_none first next k e I = record {
    first_owned = λ u j q. let (lt, o) = I.first_owned u j q in (omega arith, o);
    falls = I.falls;
    next_owned = I.next_owned;
    first_covers = λ i l lt h. elim (ℕ_discrete i k) [
      | yes p ↦ (let h' : Holds net k l = subst (λ x. Holds net x l) p h in let z : ◌≡◌ {A = ℕ} 0 1 = cc in absurd (omega arith))
      | no n ↦ I.first_covers i l (omega arith) h
    ];
    next_covers = λ u j i l lt o h q lt'. elim (ℕ_discrete j k) [
      | yes p ↦ (
          let o' : head_of (place net.places k) ≡ Some u = subst (λ x. head_of (place net.places x) ≡ Some u) p o in
          let o'' : ◌≡◌ {A = Option ℕ} None (Some u) = sym (ap head_of e) ∙ o' in
          let z : ◌≡◌ {A = ℕ} 0 1 = cc in absurd (omega arith))
      | no n ↦ I.next_covers u j i l (omega arith) o h q lt'
    ];
  }

  -- the place holds a link
  pub index_some : (first next : List (Option ℕ)) (k : ℕ) (l : Link) → Holds net k l → l.head < length first → k < length next →
      IndexedBelow net (place first) (place next) k →
      IndexedBelow net (place (set first l.head (Some k))) (place (set next k (place first l.head))) (k + 1)
  index_some first next k l h inf inn I = record {
    first_owned = λ u j e. elim (ℕ_discrete u l.head) [
      | yes p ↦ (
          let e' : place (set first l.head (Some k)) l.head ≡ Some j = subst (λ x. place (set first l.head (Some k)) x ≡ Some j) p e in
          let s = get_or-set_same first l.head (Some k) None inf in
          let kj : k ≡ j = cc in
          (omega arith, subst (λ x. head_of (place net.places x) ≡ Some u) kj (own ∙ ap Some (sym p))))
      | no n ↦ (let (lt, o) = I.first_owned u j (sym (get_or-set_other first l.head u (Some k) None n) ∙ e) in (omega arith, o))
    ];
    falls = λ j i e. elim (ℕ_discrete j k) [
      | yes p ↦ (
          let e' : place first l.head ≡ Some i = sym (get_or-set_same next k (place first l.head) None inn) ∙ (ap (place (set next k (place first l.head))) (sym p) ∙ e) in
          let (lt, o') = I.first_owned l.head i e' in
          omega arith)
      | no n ↦ I.falls j i (sym (get_or-set_other next k j (place first l.head) None n) ∙ e)
    ];
    next_owned = λ u j i o e. elim (ℕ_discrete j k) [
      | yes p ↦ (
          let e' : place first l.head ≡ Some i = sym (get_or-set_same next k (place first l.head) None inn) ∙ (ap (place (set next k (place first l.head))) (sym p) ∙ e) in
          let (lt, o') = I.first_owned l.head i e' in
          let o'' : head_of (place net.places k) ≡ Some u = subst (λ x. head_of (place net.places x) ≡ Some u) p o in
          o' ∙ (sym own ∙ o''))
      | no n ↦ I.next_owned u j i o (sym (get_or-set_other next k j (place first l.head) None n) ∙ e)
    ];
    first_covers = λ i l' lt h'. elim (ℕ_discrete l'.head l.head) [
      | yes p ↦ subst (UpTo i) (sym (ap (place (set first l.head (Some k))) p ∙ get_or-set_same first l.head (Some k) None inf)) (let z : i ≤ k = omega arith in z)
      | no n ↦ subst (UpTo i) (sym (get_or-set_other first l.head l'.head (Some k) None n))
          (I.first_covers i l' (let ne : i ≡ k → ⊥ = λ q. n (ap (λ x. x.head) (same_link net k l' l (subst (λ x. Holds net x l') q h') h)) in omega arith) h')
    ];
    next_covers = λ u j i l' lt o h' q lt'. elim (ℕ_discrete j k) [
      | yes p ↦ (
          let o'' : head_of (place net.places k) ≡ Some u = subst (λ x. head_of (place net.places x) ≡ Some u) p o in
          let uh : ◌≡◌ {A = Option ℕ} (Some u) (Some l.head) = sym o'' ∙ own in
          let hu : u ≡ l.head = cc in
          let c : UpTo i (place first l'.head) = I.first_covers i l' (omega arith) h' in
          subst (UpTo i) (sym (ap (place (set next k (place first l.head))) p ∙ get_or-set_same next k (place first l.head) None inn))
          (subst (λ x. UpTo i (place first x)) (q ∙ hu) c))
      | no n ↦ subst (UpTo i) (sym (get_or-set_other next k j (place first l.head) None n)) (I.next_covers u j i l' (omega arith) o h' q lt')
    ];
  }
    where
      own : head_of (place net.places k) ≡ Some l.head
      own = ap head_of h

  -- the same of the index as it stands in memory
  pub indexing_some : (index : Index) (k h : ℕ) (l : Link) (o v : Option ℕ) → Holds net k l → h ≡ l.head → o ≡ place index.first h → v ≡ Some k →
      h < length index.first → k < length index.next →
      Indexing net index k → Indexing net (record { first = set index.first h v; next = set index.next k o }) (k + 1)
  indexing_some index k h l o v at e q r inf inn I =
      subst (λ y. IndexedBelow net (place (set index.first h y)) (place (set index.next k o)) (k + 1)) (sym r)
      (subst (λ x. IndexedBelow net (place (set index.first h (Some k))) (place (set index.next k x)) (k + 1)) (sym q)
      (subst (λ x. IndexedBelow net (place (set index.first x (Some k))) (place (set index.next k (place index.first x))) (k + 1)) (sym e)
      (index_some index.first index.next k l at (omega arith) inn I)))

  -- the index of a network serves each layer
  pub index_layer : (gone : ℕ → Bool) (first next : ℕ → Option ℕ) → Indexed net first next → Indexed (without gone net) first next
  index_layer gone first next I = record {
    owner = I.owner;
    first_owned = λ u j e. let (lt, o) = I.first_owned u j e in let same = length_emptied gone net.places in (omega arith, o);
    falls = I.falls;
    next_owned = I.next_owned;
    first_covers = λ k l h. I.first_covers k l (below gone net k l h).0;
    next_covers = λ u j k l o h. I.next_covers u j k l o (below gone net k l h).0;
  }
