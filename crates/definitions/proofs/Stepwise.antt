-- The steps of the search for next links, over any heap.
use Rattle.std.proofs.Common.{◌≡◌, ℕ, suc, ◌<◌, ◌≤◌, ◌⊎◌, Some, None, Option, sym, refl, ap, ◌∙◌, subst, inl, inr, arith}
use native.Mathlib.Decide.{ℕ_discrete}
use Rattle.definitions.specs.declared.Link.{Link}
use Rattle.definitions.specs.Networks.{Net, Holds}
use Rattle.definitions.specs.Routes.{Valuation, Tight}
use Rattle.definitions.specs.Searches.{Nexts, Stepping}
use Rattle.definitions.proofs.Layers.{same_link, same_at, so_at}
use Rattle.definitions.proofs.Settling.{not_both}

module _ (ρ : Valuation) (net : Net) (t : ℕ) where
  pub fewer_due : (s nx : ℕ → Option ℕ) (In : ℕ → ℕ → Type 0) (Due Due' : ℕ → Link → Type 0) (last : ℕ) →
      ((k : ℕ) (l : Link) → Holds net k l → Due' k l → Due k l) → Stepping ρ net t s nx In Due last → Stepping ρ net t s nx In Due' last
  fewer_due s nx In Due Due' last f R = record {
    none_at_t = R.none_at_t;
    behind = R.behind;
    ahead = R.ahead;
    origin = R.origin;
    taken = R.taken;
    kept = λ k l c a h du. R.kept k l c a h (f k l h du);
    waits = λ k l c h du. R.waits k l c h (f k l h du);
  }

  pub begins : (s nx : ℕ → Option ℕ) → s t ≡ Some 0 → ((u : ℕ) → (u ≡ t → ⊥) → s u ≡ None) → Stepping ρ net t s nx (λ n k. ⊥) (λ k l. l.head ≡ t → ⊥) 0
  begins s nx e o = record {
    none_at_t = e;
    behind = λ u a q. elim (ℕ_discrete u t) [
      | yes p ↦ (let z : a ≡ 0 = cc in omega arith)
      | no n ↦ absurd (not_both (s u) a q (o u n))
    ];
    ahead = λ n k q. absurd q;
    origin = λ n k q. absurd q;
    taken = λ u a q n. absurd (not_both (s u) a q (o u n));
    kept = λ k l c a h du T q r. absurd (not_both (s l.head) c q (o l.head du));
    waits = λ k l c h du T q r. absurd (not_both (s l.head) c q (o l.head du));
  }

  module _ (s nx : ℕ → Option ℕ) (In : ℕ → ℕ → Type 0) (Due : ℕ → Link → Type 0) (last : ℕ) (R : Stepping ρ net t s nx In Due last) where
    -- one link is offered: its head was settled last
    pub offers : (k : ℕ) (l : Link) → Holds net k l → s l.head ≡ Some last → (In' : ℕ → ℕ → Type 0) (Due' : ℕ → Link → Type 0) →
        ((n j : ℕ) → In n j → In' n j) → ((n j : ℕ) → In' n j → In n j ⊎ ((n ≡ suc last) × (j ≡ k) × Tight ρ net t k l)) →
        (Tight ρ net t k l → s l.tail ≡ None → In' (suc last) k) →
        ((j : ℕ) (i : Link) → Due' j i → (j ≡ k → ⊥) → Due j i) → Stepping ρ net t s nx In' Due' last
    offers k l h hd In' Due' grow new put less = record {
      none_at_t = R.none_at_t;
      behind = R.behind;
      ahead = λ n j i. elim (new n j i) [ inl p ↦ R.ahead n j p | inr p ↦ omega arith ];
      origin = λ n j i. elim (new n j i) [
        | inl p ↦ R.origin n j p
        | inr p ↦ (l, last, subst (λ x. Holds net x l) (sym p.1) h, subst (λ x. Tight ρ net t x l) (sym p.1) p.2, hd, p.0)
      ];
      taken = R.taken;
      kept = λ j i c a hj du T q e. elim (ℕ_discrete j k) [
        | no z ↦ R.kept j i c a hj (less j i du z) T q e
        | yes z ↦
            let y = same_at net j k i l z hj h in
            let cl : c ≡ last = cc in
            let al : a ≤ last = R.behind i.tail a e in
            (omega arith, λ x ax nxx. absurd (omega arith))
      ];
      waits = λ j i c hj du T q e. elim (ℕ_discrete j k) [
        | no z ↦ grow (suc c) j (R.waits j i c hj (less j i du z) T q e)
        | yes z ↦ so_at net (λ j i. Tight ρ net t j i → s i.head ≡ Some c → s i.tail ≡ None → In' (suc c) j) j k i l z hj h (λ T q e.
            let same : last ≡ c = cc in
            subst (λ x. In' (suc x) k) same (put T e)) T q e
      ];
    }

    module _ (n k : ℕ) (l : Link) (h : Holds net k l) (here : In n k) (In' : ℕ → ℕ → Type 0)
        (least : (m j : ℕ) → In m j → (n < m) ⊎ ((n ≡ m) × (k ≤ j)))
        (fewer : (m j : ℕ) → In' m j → In m j) (left : (m j : ℕ) → (j ≡ k → ⊥) → In m j → In' m j) where
      pub skips : (a : ℕ) → s l.tail ≡ Some a → Stepping ρ net t s nx In' Due last
      skips a e = record {
        none_at_t = R.none_at_t;
        behind = R.behind;
        ahead = λ m j i. R.ahead m j (fewer m j i);
        origin = λ m j i. R.origin m j (fewer m j i);
        taken = R.taken;
        kept = R.kept;
        waits = λ j i c hj du T q z.
            left (suc c) j (λ p. not_both (s i.tail) a (ap (λ x. s x.tail) (same_at net j k i l p hj h) ∙ e) z)
            (R.waits j i c hj du T q z);
      }

      pub settles : (s' nx' : ℕ → Option ℕ) → s l.tail ≡ None → s' l.tail ≡ Some n → nx' l.tail ≡ Some k →
          ((x : ℕ) → (x ≡ l.tail → ⊥) → s' x ≡ s x) → ((x : ℕ) → (x ≡ l.tail → ⊥) → nx' x ≡ nx x) →
          ((j : ℕ) (i : Link) → Due j i) → Stepping ρ net t s' nx' In' (λ j i. i.head ≡ l.tail → ⊥) n
      settles s' nx' fresh now nxt rest restn due = record {
        none_at_t = keeps t 0 R.none_at_t;
        behind = λ x a e. elim (ℕ_discrete x l.tail) [
          | yes p ↦ (let z : a ≡ n = cc in omega arith)
          | no q ↦ (let z : a ≤ last = R.behind x a (sym (rest x q) ∙ e) in let y : last ≤ n = R.ahead n k here in omega arith)
        ];
        ahead = λ m j i. elim (least m j (fewer m j i)) [ inl p ↦ omega arith | inr p ↦ omega arith ];
        origin = λ m j i.
            let (o, c, ho, To, so, z) = R.origin m j (fewer m j i) in
            (o, c, ho, To, keeps o.head c so, z);
        taken = taken';
        kept = λ j i c a hj du T q e.
            let q' : s i.head ≡ Some c = sym (rest i.head du) ∙ q in
            elim (ℕ_discrete i.tail l.tail) [
              | no z ↦
                  let (le, lo) = R.kept j i c a hj (due j i) T q' (sym (rest i.tail z) ∙ e) in
                  (le, λ x ax nxx. lo x ax (sym (restn i.tail z) ∙ nxx))
              | yes z ↦
                  let an : a ≡ n = cc in
                  let none : s i.tail ≡ None = ap s z ∙ fresh in
                  let w = least (suc c) j (R.waits j i c hj (due j i) T q' none) in (
                    elim w [ inl p ↦ omega arith | inr p ↦ omega arith ],
                    λ x ax nxx.
                        let xk : x ≡ k = cc in
                        elim w [ inl p ↦ absurd (omega arith) | inr p ↦ omega arith ],
                  )
            ];
        waits = λ j i c hj du T q e.
            let q' : s i.head ≡ Some c = sym (rest i.head du) ∙ q in
            let apart : i.tail ≡ l.tail → ⊥ = λ z. not_both (s' i.tail) n (ap s' z ∙ now) e in
            left (suc c) j (λ p. apart (ap (λ x. x.tail) (same_at net j k i l p hj h)))
            (R.waits j i c hj (due j i) T q' (sym (rest i.tail apart) ∙ e));
      }
        where
          keeps : (x a : ℕ) → s x ≡ Some a → s' x ≡ Some a
          keeps x a e = elim (ℕ_discrete x l.tail) [ yes p ↦ absurd (not_both (s x) a e (ap s p ∙ fresh)) | no q ↦ rest x q ∙ e ]

          taken' : (x a : ℕ) → s' x ≡ Some a → (x ≡ t → ⊥) →
              (k : ℕ) × (l : Link) × (n : ℕ) × (nx' x ≡ Some k) × Holds net k l × (l.tail ≡ x) × Tight ρ net t k l × (s' l.head ≡ Some n) × (a ≡ suc n)
          taken' x a e away = elim (ℕ_discrete x l.tail) [
            | no q ↦
                (let (j, i, c, nj, hj, tj, Tj, sj, z) = R.taken x a (sym (rest x q) ∙ e) away in
                (j, i, c, restn x q ∙ nj, hj, tj, Tj, keeps i.head c sj, z))
            | yes p ↦
                (let (o, c, ho, To, so, z) = R.origin n k here in
                let y : o ≡ l = same_link net k o l ho h in
                let an : a ≡ n = cc in
                (k, l, c, ap nx' p ∙ nxt, h, sym p, subst (λ x. Tight ρ net t k x) y To, keeps l.head c (subst (λ x. s x.head ≡ Some c) y so), an ∙ z))
          ]

  pub ends : (s nx : ℕ → Option ℕ) (In : ℕ → ℕ → Type 0) (Due : ℕ → Link → Type 0) (last : ℕ) → Stepping ρ net t s nx In Due last →
      ((n k : ℕ) → In n k → ⊥) → ((k : ℕ) (l : Link) → Due k l) → Nexts ρ net t s nx
  ends s nx In Due last R empty due = record {
    none_at_t = R.none_at_t;
    taken = R.taken;
    offered = λ k l n h T e. go k l n h T e (s l.tail) refl;
  }
    where
      go : (k : ℕ) (l : Link) (n : ℕ) → Holds net k l → Tight ρ net t k l → s l.head ≡ Some n → (o : Option ℕ) → s l.tail ≡ o →
          (a : ℕ) × (s l.tail ≡ Some a) × (a ≤ suc n) × ((j : ℕ) → a ≡ suc n → nx l.tail ≡ Some j → j ≤ k)
      go k l n h T e None q = absurd (empty (suc n) k (R.waits k l n h (due k l) T e q))
      go k l n h T e (Some a) q = let (le, lo) = R.kept k l n a h (due k l) T e q in (a, q, le, lo)
