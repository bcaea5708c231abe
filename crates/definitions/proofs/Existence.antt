-- Every network has best values and next links to every destination: a search by hand, with no heap.
use Rattle.std.proofs.Common.{◌≡◌, ℕ, zero, suc, ◌<◌, ◌≤◌, true, cond, eqb, ◌⊎◌, List, [], ◌∷◌, length, Some, None, Option, sym, refl, ap, ◌∙◌, subst, inl, inr, arith}
use mathlib.Core.Logic.{∥∥₁_elim}
use mathlib.Core.HLevel.{⊥_prop}
use native.Mathlib.Decide.{ℕ_discrete}
use Rattle.std.proofs.lemmas.Option.{none-some}
use Rattle.std.proofs.lemmas.Bool.{cond-true, cond-false, eq-eqb, ne_eqb, leb-true, cases_lt}
use Rattle.definitions.specs.declared.Link.{Link}
use Rattle.definitions.specs.Networks.{Net, Holds, Limits, place}
use Rattle.definitions.specs.Measures.{Scale, Laws}
use Rattle.definitions.specs.Routes.{Valuation, Tight, count_tight}
use Rattle.definitions.specs.Plans.{plain}
use Rattle.definitions.specs.Searches.{LabelChain, Labels, Nexts, Running}
use Rattle.definitions.proofs.Fixpoint.{Lawful}
use Rattle.definitions.proofs.Layers.{same_link, inside}
use Rattle.definitions.proofs.Lawfuls.{Value, plain_lawful, Any, count_lawful}
use Rattle.definitions.proofs.Following.{tight_labels, labels_tight}
use Rattle.definitions.proofs.Settling.{not_both, begins, done_fits, in_fits, settles, ends}

-- Of the numbers that the first n places offer, one that comes before all, or there is none.
module _ (Offers : ℕ → ℕ → Type 0) (le : ℕ → ℕ → Type 0) where
  abbrev Least : ℕ → Type 0
  Least n = (k : ℕ) × (a : ℕ) × (k < n) × Offers k a × ((j b : ℕ) → j < n → Offers j b → le a b)

  abbrev NoOffer : ℕ → Type 0
  NoOffer n = (j b : ℕ) → j < n → Offers j b → ⊥

  -- what is so of each offer below n, and at n, is so of each below suc n
  one_more : (n : ℕ) (P : ℕ → Type 0) → ((j b : ℕ) → j < n → Offers j b → P b) → ((b : ℕ) → Offers n b → P b) → (j b : ℕ) → j < suc n → Offers j b → P b
  one_more n P below at j b lt x = elim (ℕ_discrete j n) [ yes p ↦ at b (subst (λ i. Offers i b) p x) | no p ↦ below j b (omega arith) x ]

  module _ (either : (i j a b : ℕ) → Offers i a → Offers j b → le a b ⊎ le b a)
      (chains : (i j k a b c : ℕ) → Offers i a → Offers j b → Offers k c → le a b → le b c → le a c)
      (one : (k a b : ℕ) → Offers k a → Offers k b → a ≡ b)
      (here : (k : ℕ) → ((a : ℕ) × Offers k a) ⊎ ((a : ℕ) → Offers k a → ⊥)) where
    only : (n a : ℕ) → Offers n a → (b : ℕ) → Offers n b → le a b
    only n a x b y = subst (le a) (one n a b x y) (elim (either n n a a x x) [ inl p ↦ p | inr p ↦ p ])

    least : (n : ℕ) → Least n ⊎ NoOffer n
    least zero = inr (λ j b lt x. omega arith)
    least (suc n) = join (least n) (here n)
      where
        join : Least n ⊎ NoOffer n → ((a : ℕ) × Offers n a) ⊎ ((a : ℕ) → Offers n a → ⊥) → Least (suc n) ⊎ NoOffer (suc n)
        join (inr A) (inr B) = inr (one_more n (λ b. ⊥) A B)
        join (inl (k, a, lt, x, low)) (inr B) = inl (k, a, omega arith, x, one_more n (le a) low (λ b y. absurd (B b y)))
        join (inr A) (inl (a, x)) = inl (n, a, omega arith, x, one_more n (le a) (λ j b lj y. absurd (A j b lj y)) (only n a x))
        join (inl (k, a, lt, x, low)) (inl (c, y)) = elim (either k n a c x y) [
          | inl p ↦ inl (k, a, omega arith, x, one_more n (le a) low (λ b z. subst (le a) (one n c b y z) p))
          | inr p ↦ inl (n, c, omega arith, y, one_more n (le c) (λ j b lj z. chains n k j c a b y x z p (low j b lj z)) (only n c y))
        ]

-- the labels d, and w at u
abbrev put : (ℕ → Option ℕ) → ℕ → ℕ → ℕ → Option ℕ
put d u w x = cond (eqb x u) (Some w) (d x)

put_here : (d : ℕ → Option ℕ) (u w x : ℕ) → x ≡ u → put d u w x ≡ Some w
put_here d u w x e = cond-true _ _ _ (eq-eqb x u e)

put_there : (d : ℕ → Option ℕ) (u w x : ℕ) → (x ≡ u → ⊥) → put d u w x ≡ d x
put_there d u w x n = cond-false _ _ _ (ne_eqb x u n)

-- how many of the first n nodes have no label
abbrev one_if_none : Option ℕ → ℕ → ℕ
one_if_none None c = suc c
one_if_none (Some a) c = c

abbrev undone : (ℕ → Option ℕ) → ℕ → ℕ
undone d zero = 0
undone d (suc n) = one_if_none (d n) (undone d n)

undone_same : (d : ℕ → Option ℕ) (u w n : ℕ) → n ≤ u → undone (put d u w) n ≡ undone d n
undone_same d u w zero le = refl
undone_same d u w (suc n) le =
    let ih = undone_same d u w n (omega arith) in
    let e = put_there d u w n (λ (z : n ≡ u). omega arith) in
    ap (λ o. one_if_none o (undone (put d u w) n)) e ∙ ap (one_if_none (d n)) ih

undone_less : (d : ℕ → Option ℕ) (u w n : ℕ) → d u ≡ None → u < n → suc (undone (put d u w) n) ≡ undone d n
undone_less d u w zero e lt = absurd (omega arith)
undone_less d u w (suc n) e lt = elim (ℕ_discrete n u) [
  | yes p ↦
      let here = put_here d u w n p in
      let same = undone_same d u w n (omega arith) in
      let was : d n ≡ None = ap d p ∙ e in
      ap (λ o. suc (one_if_none o (undone (put d u w) n))) here ∙ ap suc same ∙ sym (ap (λ o. one_if_none o (undone d n)) was)
  | no p ↦
      let there = put_there d u w n p in
      let ih = undone_less d u w n e (omega arith) in
      ap (λ o. suc (one_if_none o (undone (put d u w) n))) there ∙ more (d n) (undone (put d u w) n) (undone d n) ih
]
  where
    more : (o : Option ℕ) (a b : ℕ) → suc a ≡ b → suc (one_if_none o a) ≡ one_if_none o b
    more None a b q = ap suc q
    more (Some x) a b q = q

module _ (ρ : Valuation) (net : Net) (N : Limits net) (t : ℕ) (Fit : ℕ → Type 0) (L : Lawful ρ net Fit)
    (made : ℕ → Link → ℕ → Option ℕ)
    (made_via : (k : ℕ) (l : Link) (v w : ℕ) → made k l v ≡ Some w → ρ.via k l v w)
    (via_made : (k : ℕ) (l : Link) (v w : ℕ) → ρ.via k l v w → made k l v ≡ Some w) where
  -- the link l at k offers its tail, which has no label yet, the value w
  abbrev Offered : (ℕ → Option ℕ) → ℕ → Link → ℕ → Type 0
  Offered d k l w = (b : ℕ) × (d l.tail ≡ None) × (d l.head ≡ Some b) × ρ.via k l b w

  offered_one : (d : ℕ → Option ℕ) (k : ℕ) (l : Link) (v w : ℕ) → Offered d k l v → Offered d k l w → v ≡ w
  offered_one d k l v w (b, _, hb, p) (a, _, ha, q) =
      let e : b ≡ a = cc in
      let q' : ρ.via k l b w = subst (λ x. ρ.via k l x w) (sym e) q in
      let x = via_made k l b v p in
      let y = via_made k l b w q' in
      cc

  -- The search under way, where each link is offered at once: what waits is what the links offer.
  abbrev Waits : (ℕ → Option ℕ) → ℕ → ℕ → Type 0
  Waits d w u = (k : ℕ) × (l : Link) × Holds net k l × (l.tail ≡ u) × Offered d k l w

  abbrev All : ℕ → Link → Type 0
  All k l = Unit {0}

  abbrev Front : (ℕ → Option ℕ) → ℕ → Type 0
  Front d last = Running ρ net t d (Waits d) All last

  -- now also the links into the node that was settled last
  all_offered : (d : ℕ → Option ℕ) (In : ℕ → ℕ → Type 0) (u last : ℕ) → d u ≡ Some last → Running ρ net t d In (λ k l. l.head ≡ u → ⊥) last → Front d last
  all_offered d In u last now R = record {
    at_t = R.at_t;
    met = R.met;
    newest = R.newest;
    behind = R.behind;
    ahead = λ w x (k, l, h, f, (b, n, hb, m)). elim (ℕ_discrete l.head u) [
      | yes p ↦ L.never_better k l last w h fit_last (via_last k l b w p hb m)
      | no p ↦ R.ahead w l.tail (R.waits k l b w h p (λ q. not_both (d l.tail) ρ.start (ap d q ∙ R.at_t) n) hb m n)
    ];
    origin = λ w x (k, l, h, f, (b, n, hb, m)). ∣ (k, l, b, h, f, hb, m) ∣₁;
    kept = λ k l b w a h du n hb m e. elim (ℕ_discrete l.head u) [
      | yes p ↦
          let m' = via_last k l b w p hb m in
          L.chains a last w (fits l.tail a e) fit_last (L.via_fits k l last w h fit_last m') (R.behind l.tail a e) (L.never_better k l last w h fit_last m')
      | no p ↦ R.kept k l b w a h p n hb m e
    ];
    waits = λ k l b w h du n hb m e. (k, l, h, refl, (b, e, hb, m));
  }
    where
      fits : (x a : ℕ) → d x ≡ Some a → Fit a
      fits x a e = done_fits ρ net t Fit L d In (λ k l. l.head ≡ u → ⊥) last R x a e

      fit_last : Fit last
      fit_last = fits u last now

      via_last : (k : ℕ) (l : Link) (b w : ℕ) → l.head ≡ u → d l.head ≡ Some b → ρ.via k l b w → ρ.via k l last w
      via_last k l b w p hb m =
          let same : b ≡ last = cc in
          subst (λ x. ρ.via k l x w) same m

  -- t alone has a label
  abbrev first : ℕ → Option ℕ
  first = put (λ x. None) t ρ.start

  front_first : Front first ρ.start
  front_first =
      let now = put_here (λ x. None) t ρ.start t refl in
      all_offered first (λ w u. ⊥) t ρ.start now (begins ρ net t Fit L first now (λ u n. put_there (λ x. None) t ρ.start u n))

  module _ (d : ℕ → Option ℕ) (last : ℕ) (F : Front d last) where
    -- what the link at k offers
    abbrev Offer : ℕ → ℕ → Type 0
    Offer k w = (l : Link) × Holds net k l × Offered d k l w

    offer_fit : (k w : ℕ) → Offer k w → Fit w
    offer_fit k w (l, h, q) = in_fits ρ net t Fit L d (Waits d) All last F w l.tail (k, l, h, refl, q)

    offer_one : (k v w : ℕ) → Offer k v → Offer k w → v ≡ w
    offer_one k v w (l, h, p) (o, g, q) = offered_one d k l v w p (subst (λ x. Offered d k x w) (same_link net k o l g h) q)

    abbrev OfferOrNot : ℕ → Type 0
    OfferOrNot k = ((w : ℕ) × Offer k w) ⊎ ((w : ℕ) → Offer k w → ⊥)

    offer? : (k : ℕ) → OfferOrNot k
    offer? k = at (place net.places k) refl
      where
        at : (o : Option Link) → place net.places k ≡ o → OfferOrNot k
        at None e = inr (λ w (l, h, q). none-some l (sym e ∙ h))
        at (Some l) e = tail (d l.tail) refl
          where
            by_l : (w : ℕ) → Offer k w → Offered d k l w
            by_l w (o, h, q) = subst (λ x. Offered d k x w) (same_link net k o l h e) q

            tail : (x : Option ℕ) → d l.tail ≡ x → OfferOrNot k
            tail (Some a) p = inr (λ w o. not_both (d l.tail) a p (by_l w o).1)
            tail None p = head (d l.head) refl
              where
                head : (x : Option ℕ) → d l.head ≡ x → OfferOrNot k
                head None q = inr (λ w o. let (b, n, hb, m) = by_l w o in not_both (d l.head) b hb q)
                head (Some b) q = makes (made k l b) refl
                  where
                    makes : (x : Option ℕ) → made k l b ≡ x → OfferOrNot k
                    makes (Some w) r = inl (w, (l, e, (b, p, q, made_via k l b w r)))
                    makes None r = inr (λ w o.
                        let (c, n, hc, m) = by_l w o in
                        let same : c ≡ b = cc in
                        not_both (made k l b) w (via_made k l b w (subst (λ x. ρ.via k l x w) same m)) r)

    abbrev NoWorse : ℕ → ℕ → Type 0
    NoWorse v w = ρ.no_worse v w ≡ true

    best_offer : Least Offer NoWorse (length net.places) ⊎ NoOffer Offer NoWorse (length net.places)
    best_offer = least Offer NoWorse (λ i j a b x y. L.one_is a b (offer_fit i a x) (offer_fit j b y))
        (λ i j k a b c x y z. L.chains a b c (offer_fit i a x) (offer_fit j b y) (offer_fit k c z)) offer_one offer? (length net.places)

    -- without an offer the search has ended, and else the best offer is settled
    ended : NoOffer Offer NoWorse (length net.places) → Labels ρ net t d
    ended A = ends ρ net t Fit L d (Waits d) All last F (λ w u (k, l, h, f, o). A k w (inside net k l h) (l, h, o)) (λ k l. tt)

    front_next : (k : ℕ) (l : Link) (w : ℕ) → Holds net k l → Offered d k l w → ((j v : ℕ) → j < length net.places → Offer j v → NoWorse w v) → Front (put d l.tail w) w
    front_next k l w h o low =
        let now = put_here d l.tail w l.tail refl in
        all_offered (put d l.tail w) (λ v x. Waits d v x × (x ≡ l.tail → ⊥)) l.tail w now
        (settles ρ net t Fit L d (Waits d) All last F w l.tail (k, l, h, refl, o) (λ v x. Waits d v x × (x ≡ l.tail → ⊥))
        (λ v x (j, i, hj, f, q). low j v (inside net j i hj) (i, hj, q)) (λ v x i. i.0) (λ v x n i. (i, n))
        (put d l.tail w) o.1 now (λ x n. put_there d l.tail w x n) (λ j i. tt))

  undone_some : (d : ℕ → Option ℕ) (u n : ℕ) → d u ≡ None → u < n → 0 < undone d n
  undone_some d u n e lt = let z = undone_less d u 0 n e lt in omega arith

  abbrev Found : Type 0
  Found = (x : ℕ → Option ℕ) × Labels ρ net t x

  run : (fuel : ℕ) (d : ℕ → Option ℕ) (last : ℕ) → Front d last → undone d net.nodes ≤ fuel → Found
  run zero d last F le = elim (best_offer d last F) [
    | inr A ↦ (d, ended d last F A)
    | inl (k, w, lt, (l, h, o), low) ↦ absurd (let z = undone_some d l.tail net.nodes o.1 (N.sound k l h).0 in omega arith)
  ]
  run (suc fuel) d last F le = elim (best_offer d last F) [
    | inr A ↦ (d, ended d last F A)
    | inl (k, w, lt, (l, h, o), low) ↦
        let fewer = undone_less d l.tail w net.nodes o.1 (N.sound k l h).0 in
        run fuel (put d l.tail w) w (front_next d last F k l w h o low) (omega arith)
  ]

  pub labels_exist : (d : ℕ → Option ℕ) × Labels ρ net t d
  labels_exist = run (undone first net.nodes) first ρ.start front_first (omega arith)

-- By the labels it is decided which links are tight, and the count of tight links has labels again.
module _ (ρ : Valuation) (net : Net) (N : Limits net) (t : ℕ) (Fit : ℕ → Type 0) (L : Lawful ρ net Fit)
    (made : ℕ → Link → ℕ → Option ℕ)
    (made_via : (k : ℕ) (l : Link) (v w : ℕ) → made k l v ≡ Some w → ρ.via k l v w)
    (via_made : (k : ℕ) (l : Link) (v w : ℕ) → ρ.via k l v w → made k l v ≡ Some w)
    (d : ℕ → Option ℕ) (S : Labels ρ net t d) where
  abbrev TightOrNot : ℕ → Link → Type 0
  TightOrNot k l = Tight ρ net t k l ⊎ (Tight ρ net t k l → ⊥)

  tight? : (k : ℕ) (l : Link) → TightOrNot k l
  tight? k l = at (ℕ_discrete l.tail t)
    where
      at : Dec (l.tail ≡ t) → TightOrNot k l
      at (yes p) = inr (λ T. T.elsewhere p)
      at (no p) = head (d l.head) refl
        where
          head : (o : Option ℕ) → d l.head ≡ o → TightOrNot k l
          head None q = inr (λ T. let (b, a, hb, ha, m) = labels_tight ρ net t Fit L d S k l T in not_both (d l.head) b hb q)
          head (Some b) q = tail (d l.tail) refl
            where
              tail : (o : Option ℕ) → d l.tail ≡ o → TightOrNot k l
              tail None r = inr (λ T. let (b, a, hb, ha, m) = labels_tight ρ net t Fit L d S k l T in not_both (d l.tail) a ha r)
              tail (Some a) r = makes (made k l b) refl
                where
                  apart : (o : Option ℕ) → made k l b ≡ o → (o ≡ Some a → ⊥) → Tight ρ net t k l → ⊥
                  apart o z ne T =
                      let (b', a', hb, ha, m) = labels_tight ρ net t Fit L d S k l T in
                      let eb : b' ≡ b = cc in
                      let ea : a' ≡ a = cc in
                      let m' : ρ.via k l b a' = subst (λ x. ρ.via k l x a') eb m in
                      let m'' : ρ.via k l b a = subst (λ x. ρ.via k l b x) ea m' in
                      ne (sym z ∙ via_made k l b a m'')

                  makes : (o : Option ℕ) → made k l b ≡ o → TightOrNot k l
                  makes None z = inr (apart None z (none-some a))
                  makes (Some w) z = elim (ℕ_discrete w a) [
                    | yes e ↦ inl (tight_labels ρ net t Fit L d S k l b a p q r (subst (λ x. ρ.via k l b x) e (made_via k l b w z)))
                    | no e ↦ inr (apart (Some w) z (λ y. e cc))
                  ]

  abbrev counted : (k : ℕ) (l : Link) → TightOrNot k l → ℕ → Option ℕ
  counted k l (inl T) n = Some (suc n)
  counted k l (inr A) n = None

  steps_exist : (s : ℕ → Option ℕ) × Labels (count_tight ρ net t) net t s
  steps_exist = labels_exist (count_tight ρ net t) net N t Any (count_lawful ρ net t) (λ k l. counted k l (tight? k l)) (λ k l v w e. to k l v w (tight? k l) e) (λ k l v w e. from k l v w (tight? k l) e)
    where
      to : (k : ℕ) (l : Link) (v w : ℕ) (c : TightOrNot k l) → counted k l c v ≡ Some w → Tight ρ net t k l × (w ≡ suc v)
      to k l v w (inl T) e = (T, cc)
      to k l v w (inr A) e = absurd (none-some w e)

      from : (k : ℕ) (l : Link) (v w : ℕ) (c : TightOrNot k l) → Tight ρ net t k l × (w ≡ suc v) → counted k l c v ≡ Some w
      from k l v w (inl T) (_, e) = ap Some (sym e)
      from k l v w (inr A) (T, e) = absurd (A T)

  module _ (s : ℕ → Option ℕ) (C : Labels (count_tight ρ net t) net t s) where
    -- the link l at k leads u to one step fewer
    abbrev Leading : ℕ → ℕ → Link → Type 0
    Leading u k l = (n : ℕ) × Holds net k l × (l.tail ≡ u) × Tight ρ net t k l × (s l.head ≡ Some n) × (s u ≡ Some (suc n))

    abbrev LeadsOrNot : ℕ → ℕ → Type 0
    LeadsOrNot u k = ((l : Link) × Leading u k l) ⊎ ((o : Link) → Leading u k o → ⊥)

    leads? : (u k : ℕ) → LeadsOrNot u k
    leads? u k = at (place net.places k) refl
      where
        at : (o : Option Link) → place net.places k ≡ o → LeadsOrNot u k
        at None e = inr (λ o D. none-some o (sym e ∙ D.1))
        at (Some l) e = tail (ℕ_discrete l.tail u)
          where
            turn : (P : Link → Type 0) → (P l → ⊥) → ((o : Link) → Leading u k o → P o) → (o : Link) → Leading u k o → ⊥
            turn P no_way f o D = no_way (subst P (same_link net k o l D.1 e) (f o D))

            tail : Dec (l.tail ≡ u) → LeadsOrNot u k
            tail (no f) = inr (turn (λ o. o.tail ≡ u) f (λ o D. D.2))
            tail (yes f) = tight (tight? k l)
              where
                tight : TightOrNot k l → LeadsOrNot u k
                tight (inr A) = inr (turn (λ o. Tight ρ net t k o) A (λ o D. D.3))
                tight (inl T) = head (s l.head) refl
                  where
                    head : (o : Option ℕ) → s l.head ≡ o → LeadsOrNot u k
                    head None p = inr (turn (λ o. (n : ℕ) × (s o.head ≡ Some n)) (λ x. not_both (s l.head) x.0 x.1 p) (λ o D. (D.0, D.4)))
                    head (Some n) p = own (s u) refl
                      where
                        apart : (o : Option ℕ) → s u ≡ o → (o ≡ Some (suc n) → ⊥) → (o : Link) → Leading u k o → ⊥
                        apart o q ne = turn (λ o. (n : ℕ) × (s o.head ≡ Some n) × (s u ≡ Some (suc n)))
                            (λ (c, x, y). let z : c ≡ n = cc in ne (sym q ∙ (y ∙ ap (λ i. Some (suc i)) z))) (λ o D. (D.0, D.4, D.5))

                        own : (o : Option ℕ) → s u ≡ o → LeadsOrNot u k
                        own None q = inr (apart None q (none-some (suc n)))
                        own (Some a) q = elim (ℕ_discrete a (suc n)) [
                          | yes z ↦ inl (l, (n, e, f, T, p, q ∙ ap Some z))
                          | no z ↦ inr (apart (Some a) q (λ y. z cc))
                        ]

    abbrev Leads : ℕ → ℕ → ℕ → Type 0
    Leads u k i = (i ≡ k) × (l : Link) × Leading u k l

    abbrev Lowest : ℕ → Type 0
    Lowest u = Least (Leads u) (λ i j. i ≤ j) (length net.places) ⊎ NoOffer (Leads u) (λ i j. i ≤ j) (length net.places)

    lowest : (u : ℕ) → Lowest u
    lowest u = least (Leads u) (λ i j. i ≤ j) (λ i j a b x y. elim (cases_lt a b) [ inl h ↦ inl (omega arith) | inr h ↦ inr h ])
        (λ i j k a b c x y z p q. omega arith) (λ k a b x y. x.0 ∙ sym y.0)
        (λ k. elim (leads? u k) [ inl (l, D) ↦ inl (k, (refl, l, D)) | inr A ↦ inr (λ i (e, l, D). A l D) ]) (length net.places)

    abbrev taken_place : (u : ℕ) → Lowest u → Option ℕ
    taken_place u (inl x) = Some x.0
    taken_place u (inr A) = None

    abbrev following : ℕ → Option ℕ
    following u = taken_place u (lowest u)

    nexts_found : Nexts ρ net t s following
    nexts_found = record {
      none_at_t = C.at_t;
      offered = λ k l n h T e.
          let (a, sa, le) = C.relaxed k l n (suc n) h T.elsewhere e (T, refl) in
          (a, sa, leb-true a (suc n) le, λ j ea f. low k l n j h T e (sa ∙ ap Some ea) (lowest l.tail) f);
      taken = λ u a e away. has u a e away (lowest u) refl;
    }
      where
        low : (k : ℕ) (l : Link) (n j : ℕ) → Holds net k l → Tight ρ net t k l → s l.head ≡ Some n → s l.tail ≡ Some (suc n) →
            (c : Lowest l.tail) → taken_place l.tail c ≡ Some j → j ≤ k
        low k l n j h T e q (inl (i, a, lt, (same, o, D), least)) f =
            let z : i ≡ j = cc in
            let le : a ≤ k = least k k (inside net k l h) (refl, l, (n, h, refl, T, e, q)) in
            omega arith
        low k l n j h T e q (inr A) f = absurd (A k k (inside net k l h) (refl, l, (n, h, refl, T, e, q)))

        has : (u a : ℕ) → s u ≡ Some a → (u ≡ t → ⊥) → (c : Lowest u) → lowest u ≡ c →
            (k : ℕ) × (l : Link) × (n : ℕ) × (following u ≡ Some k) × Holds net k l × (l.tail ≡ u) × Tight ρ net t k l × (s l.head ≡ Some n) × (a ≡ suc n)
        has u a e away (inl (k, i, lt, (same, l, (n, h, f, T, p, q)), least)) z =
            (k, l, n, ap (taken_place u) z, h, f, T, p, (let y : Some a ≡ Some (suc n) = sym e ∙ q in cc))
        has u a e away (inr A) z = absurd (∥∥₁_elim (C.met u a e) ⊥_prop (λ (ks, M). none ks M))
          where
            none : (ks : List ℕ) → LabelChain (count_tight ρ net t) net t s u ks → ⊥
            none [] p = away p
            none (k ∷ ks) (l, b, a', h, f, n, db, da, (T, z), rest) = A k k (inside net k l h) (refl, l, (b, h, f, T, db, da ∙ ap Some z))

  pub nexts_exist : (s : ℕ → Option ℕ) × (nx : ℕ → Option ℕ) × Nexts ρ net t s nx
  nexts_exist = let (s, C) = steps_exist in (s, following s C, nexts_found s C)

-- Plain values.
module _ (m : Scale) (M : Laws m) (net : Net) (N : Limits net) (t : ℕ) where
  pub plain_exists : (d : ℕ → Option ℕ) × (s : ℕ → Option ℕ) × (nx : ℕ → Option ℕ) × Labels (plain m) net t d × Nexts (plain m) net t s nx
  plain_exists =
      let (d, S) = labels_exist (plain m) net N t Value (plain_lawful m M net N) extends to from in
      let (s, nx, X) = nexts_exist (plain m) net N t Value (plain_lawful m M net N) extends to from d S in
      (d, s, nx, S, X)
    where
      extends : ℕ → Link → ℕ → Option ℕ
      extends k l v = Some (m.extend v l.figure)

      to : (k : ℕ) (l : Link) (v w : ℕ) → extends k l v ≡ Some w → w ≡ m.extend v l.figure
      to k l v w e = cc

      from : (k : ℕ) (l : Link) (v w : ℕ) → w ≡ m.extend v l.figure → extends k l v ≡ Some w
      from k l v w e = ap Some (sym e)
