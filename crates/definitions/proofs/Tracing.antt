-- The trace: a route over links that have not failed, never worse than the guarantee, and equal to it for some failure.
use Rattle.std.proofs.Common.{◌≡◌, ℕ, suc, ◌/◌, ◌%◌, ◌^◌, ◌≤◌, Bool, true, false, eqb, ◌⊎◌, List, [], ◌∷◌, length, Some, sym, refl, ap, ◌∙◌, subst, inl, inr, arith}
use native.Mathlib.Nat.{zero-div}
use lib.Bits.{bit_and, and_shr, and_mod}
use Rattle.std.proofs.lemmas.Bool.{cases_Bool, eqb-true, eqb-false, eq-eqb, ne_eqb, or_parts, both_ways, not-false}
use Rattle.definitions.specs.declared.Link.{Link}
use Rattle.definitions.specs.declared.Failure.{Failure}
use Rattle.definitions.specs.declared.Failure.TheVariants.{Nothing, OneLink, OneGroup}
use Rattle.definitions.specs.Networks.{Net, Holds, Limits, without, risks, at_risk, share_group, in_group, failed}
use Rattle.definitions.specs.Measures.{Scale, Laws, worse}
use Rattle.definitions.specs.Routes.{Valuation, Route, RouteValue, Best, Steps, Next, Held}
use Rattle.definitions.specs.Plans.{plain, worst, Recovery, Guarantee, Backup, Traced, arrived, onward, turned}
use Rattle.definitions.proofs.Fixpoint.{best_one, best_fits, itself, value_fits}
use Rattle.definitions.proofs.Layers.{below, above, same_link, same_at, without_limits}
use Rattle.definitions.proofs.Lawfuls.{Value, plain_lawful, worst_lawful, worse_fits, worse_left, worse_right, worse_one, recovery_fits}
use Rattle.definitions.proofs.Following.{steps_one, steps_held, held_value, best_at_end, next_one, next_away, held_one}

-- Routes and values pass from a network to one that holds as much.
pub route_over : (A B : Net) → ((k : ℕ) (l : Link) → Holds A k l → Holds B k l) → (t u : ℕ) (ks : List ℕ) → Route A t u ks → Route B t u ks
route_over A B f t u [] p = p
route_over A B f t u (k ∷ ks) (l, h, e, r) = (l, f k l h, e, route_over A B f t l.head ks r)

pub value_over : (ρ : Valuation) (A B : Net) → ((k : ℕ) (l : Link) → Holds A k l → Holds B k l) → (t u : ℕ) (ks : List ℕ) (w : ℕ) → RouteValue ρ A t u ks w → RouteValue ρ B t u ks w
value_over ρ A B f t u [] w p = p
value_over ρ A B f t u (k ∷ ks) w (l, v, h, e, r, m) = (l, v, f k l h, e, value_over ρ A B f t l.head ks v r, m)

pub held_route : (ρ : Valuation) (net : Net) (t u : ℕ) (ks : List ℕ) → Held ρ net t u ks → Route net t u ks
held_route ρ net t u [] p = p
held_route ρ net t u (k ∷ ks) (l, K, p) = (l, K.holds, K.starts, held_route ρ net t l.head ks p)

-- Two links of one group have a common bit.
common_bit : (a c b : ℕ) → a / 2 ^ b % 2 ≡ 1 → c / 2 ^ b % 2 ≡ 1 → bit_and a c ≡ 0 → ⊥
common_bit a c b p q e =
    let x : bit_and a c / 2 ^ b % 2 ≡ bit_and (a / 2 ^ b % 2) (c / 2 ^ b % 2) = ap (λ n. n % 2) (and_shr a c b) ∙ and_mod (a / 2 ^ b) (c / 2 ^ b) 1 in
    let y : 0 / 2 ^ b % 2 ≡ 1 = rw (e, p, q) at x in
    let z : 0 / 2 ^ b ≡ 0 = zero-div (2 ^ b) in
    let w : 0 % 2 ≡ 1 = rw z at y in
    omega arith

-- What has failed with a link is at risk with it.
pub failed_risks : (net : Net) (f : Failure) (k j : ℕ) (l i : Link) → Holds net k l → Holds net j i →
    failed net f k ≡ true → risks net k j ≡ false → failed net f j ≡ false
failed_risks net Nothing k j l i hk hj p q = refl
failed_risks net (OneLink x) k j l i hk hj p q =
    let e = eqb-true k x p in
    let n = eqb-false j k (or_parts (eqb j k) _ q).0 in
    ne_eqb j x (λ z. n (z ∙ sym e))
failed_risks net (OneGroup b) k j l i hk hj p q =
    elim (cases_Bool (failed net (OneGroup b) j)) [
      | inr h ↦ h
      | inl h ↦
          let s : share_group (Some i) (Some l) ≡ false = rw (hj, hk) at (or_parts (eqb j k) _ q).1 in
          let z = eqb-true _ _ (not-false _ s) in
          let x : in_group b (Some i) ≡ true = rw hj at h in
          let y : in_group b (Some l) ≡ true = rw hk at p in
          absurd (common_bit i.groups l.groups b (eqb-true _ _ x) (eqb-true _ _ y) z)
    ]

module _ (m : Scale) (M : Laws m) (net : Net) (N : Limits net) (t : ℕ) where
  -- The trace runs to t over links that are there and have not failed.
  pub traced_route : (f : Failure) (u : ℕ) (ks : List ℕ) → Traced m net t (failed net f) u ks → Route (without (failed net f) net) t u ks
  traced_route f u ks (arrived p) = p
  traced_route f u ks (onward {k = k} {l = l} {ks = js} K e r) =
      (l, above (failed net f) net k l K.holds e, K.starts, traced_route f l.head js r)
  traced_route f u ks (turned {k = k} {l = l} K e (i, h, H)) =
      let q : i.tail ≡ u = ap (λ x. x.tail) (same_link net k i l h K.holds) ∙ K.starts in
      let r = held_route (plain m) (at_risk k net) t i.tail ks H in
      subst (λ x. Route (without (failed net f) net) t x ks) q
      (route_over (at_risk k net) (without (failed net f) net)
      (λ j o hj. let (hn, safe) = below (risks net k) net j o hj in above (failed net f) net j o hn (failed_risks net f k j l o K.holds hn e safe))
      t i.tail ks r)

  -- The backup of a next link has the plain value r(k).
  backup_value : (u k r : ℕ) (l : Link) (ks : List ℕ) → Next (worst m net t) net t u k l → Recovery m net t k l r → Backup m net t k ks → RouteValue (plain m) net t u ks r
  backup_value u k r l ks K R (i, h, H) =
      let q = same_link net k i l h K.holds in
      let B : Best (plain m) (at_risk k net) t i.tail r = subst (λ x. Best (plain m) (at_risk k net) t x.tail r) (sym q) R in
      let W = held_value (plain m) (at_risk k net) t Value (plain_lawful m M (at_risk k net) (without_limits (risks net k) net N)) i.tail ks r B H in
      subst (λ x. RouteValue (plain m) net t x ks r) (ap (λ x. x.tail) q ∙ K.starts)
      (value_over (plain m) (at_risk k net) net (λ j o hj. (below (risks net k) net j o hj).0) t i.tail ks r W)

  own_guarantee : (u k g : ℕ) (l : Link) (K : Next (worst m net t) net t u k l) → Guarantee m net t u g → K.tight.own ≡ g
  own_guarantee u k g l K G =
      best_one (worst m net t) net t Value (worst_lawful m M net N t) u K.tight.own g
      (subst (λ x. Guarantee m net t x K.tight.own) K.starts K.tight.best_own) G

  guarantee_fits : (u g : ℕ) → Guarantee m net t u g → Value g
  guarantee_fits u g G = best_fits (worst m net t) net t Value (worst_lawful m M net N t) u g G

  plain_value_fits : (u : ℕ) (ks : List ℕ) (w : ℕ) → RouteValue (plain m) net t u ks w → Value w
  plain_value_fits u ks w W = value_fits (plain m) net t Value (plain_lawful m M net N) u ks w W

  -- Its plain value is no worse than the guarantee.
  pub traced_value : (fails : ℕ → Bool) (u g : ℕ) (ks : List ℕ) → Guarantee m net t u g → Traced m net t fails u ks →
      (w : ℕ) × RouteValue (plain m) net t u ks w × (m.no_worse w g ≡ true)
  traced_value fails u g ks G (arrived p) =
      let e = best_at_end (worst m net t) net t Value (worst_lawful m M net N t) u g p G in
      (g, (p, e), itself (worst m net t) net t Value (worst_lawful m M net N t) g (guarantee_fits u g G))
  traced_value fails u g ks G (onward {k = k} {l = l} {ks = js} K e rest) = go K.tight.exact (traced_value fails l.head K.tight.beyond js K.tight.best_beyond rest)
    where
      go : (worst m net t).via k l K.tight.beyond K.tight.own →
          ((w : ℕ) × RouteValue (plain m) net t l.head js w × (m.no_worse w K.tight.beyond ≡ true)) →
          (w : ℕ) × RouteValue (plain m) net t u (k ∷ js) w × (m.no_worse w g ≡ true)
      go (r, R, q) (w, W, le) =
          let x = m.extend K.tight.beyond l.figure in
          let y = m.extend w l.figure in
          let ff = (N.sound k l K.holds).3 in
          let fw = plain_value_fits l.head js w W in
          let fb = guarantee_fits l.head K.tight.beyond K.tight.best_beyond in
          let fx = M.extend_fits K.tight.beyond l.figure fb ff in
          let fr = recovery_fits m M net N t k l r R in
          let eg : g ≡ worse m r x = sym (own_guarantee u k g l K G) ∙ q in (
            y,
            (l, w, K.holds, K.starts, W, refl),
            rw eg (M.chains y x (worse m r x) (M.extend_fits w l.figure fw ff) fx (worse_fits m M r x fr fx) (M.keeps w K.tight.beyond l.figure fw fb ff le) (worse_right m M r x fr fx)),
          )
  traced_value fails u g ks G (turned {k = k} {l = l} K e B) = go K.tight.exact
    where
      go : (worst m net t).via k l K.tight.beyond K.tight.own → (w : ℕ) × RouteValue (plain m) net t u ks w × (m.no_worse w g ≡ true)
      go (r, R, q) =
          let x = m.extend K.tight.beyond l.figure in
          let fb = guarantee_fits l.head K.tight.beyond K.tight.best_beyond in
          let fx = M.extend_fits K.tight.beyond l.figure fb (N.sound k l K.holds).3 in
          let eg : g ≡ worse m r x = sym (own_guarantee u k g l K G) ∙ q in
          (r, backup_value u k r l ks K R B, rw eg (worse_left m M r x (recovery_fits m M net N t k l r R) fx))

  -- Each next link has a backup: the plan has one for each.
  abbrev pub Backups : Type 0
  Backups = (u k : ℕ) (l : Link) → Next (worst m net t) net t u k l → (ks : List ℕ) × Backup m net t k ks

  -- Whatever fails, there is a trace.
  pub traced_from : Backups → (fails : ℕ → Bool) (u : ℕ) (ks : List ℕ) → Held (worst m net t) net t u ks → (js : List ℕ) × Traced m net t fails u js
  traced_from bs fails u [] p = ([], arrived p)
  traced_from bs fails u (k ∷ ks) (l, K, p) = go (traced_from bs fails l.head ks p) (cases_Bool (fails k))
    where
      go : ((js : List ℕ) × Traced m net t fails l.head js) → (fails k ≡ true) ⊎ (fails k ≡ false) → (js : List ℕ) × Traced m net t fails u js
      go ih (inl e) = let (js, B) = bs u k l K in (js, turned K e B)
      go (js, r) (inr e) = (k ∷ js, onward K e r)

  -- A failure of nothing, or of one link whose tail is n steps away at most.
  abbrev pub Near : ℕ → Failure → Type 0
  Near n Nothing = Unit {0}
  Near n (OneLink j) = (i : Link) × (s : ℕ) × Holds net j i × Steps (worst m net t) net t i.tail s × (s ≤ n)
  Near n (OneGroup b) = ⊥

  near_more : (n : ℕ) (f : Failure) → Near n f → Near (suc n) f
  near_more n Nothing p = tt
  near_more n (OneLink j) (i, s, h, S, le) = (i, s, h, S, omega arith)
  near_more n (OneGroup b) p = p

  -- it leaves a link further away alone
  near_spares : (n k : ℕ) (l : Link) (f : Failure) → Near n f → Holds net k l → Steps (worst m net t) net t l.tail (suc n) → failed net f k ≡ false
  near_spares n k l Nothing p h S = refl
  near_spares n k l (OneLink j) (i, s, hi, Si, le) h S =
      ne_eqb k j (λ e.
      let q : i ≡ l = same_at net j k i l (sym e) hi h in
      let z : s ≡ suc n = steps_one (worst m net t) net t l.tail s (suc n) (subst (λ x. Steps (worst m net t) net t x.tail s) q Si) S in
      omega arith)
  near_spares n k l (OneGroup b) p h S = absurd p

  -- For nothing, or for one link failed, the trace has exactly the guarantee for its value.
  pub traced_tight : Backups → (u g : ℕ) (ks : List ℕ) → Guarantee m net t u g → Held (worst m net t) net t u ks →
      (f : Failure) × (js : List ℕ) × Near (length ks) f × Traced m net t (failed net f) u js × RouteValue (plain m) net t u js g
  traced_tight bs u g [] G p =
      (Nothing, [], tt, arrived p, (p, best_at_end (worst m net t) net t Value (worst_lawful m M net N t) u g p G))
  traced_tight bs u g (k ∷ ks) G (l, K, p) =
      go K.tight.exact (traced_tight bs l.head K.tight.beyond ks K.tight.best_beyond p)
    where
      steps_here : Steps (worst m net t) net t l.tail (suc (length ks))
      steps_here = subst (λ x. Steps (worst m net t) net t x (suc (length ks))) (sym K.starts) (steps_held (worst m net t) net t u (k ∷ ks) (l, K, p))

      go : (worst m net t).via k l K.tight.beyond K.tight.own →
          ((f : Failure) × (js : List ℕ) × Near (length ks) f × Traced m net t (failed net f) l.head js × RouteValue (plain m) net t l.head js K.tight.beyond) →
          (f : Failure) × (js : List ℕ) × Near (suc (length ks)) f × Traced m net t (failed net f) u js × RouteValue (plain m) net t u js g
      go (r, R, q) (f, js, near, tr, W) =
          let x = m.extend K.tight.beyond l.figure in
          let eg : g ≡ worse m r x = sym (own_guarantee u k g l K G) ∙ q in
          elim (worse_one m M r x) [
            | inl e ↦
                let (bk, B) = bs u k l K in (
                  OneLink k,
                  bk,
                  (l, suc (length ks), K.holds, steps_here, omega arith),
                  turned K (eq-eqb k k refl) B,
                  subst (λ v. RouteValue (plain m) net t u bk v) (sym (eg ∙ e)) (backup_value u k r l bk K R B),
                )
            | inr e ↦ (
              f,
              k ∷ js,
              near_more (length ks) f near,
              onward K (near_spares (length ks) k l f near K.holds steps_here) tr,
              (l, K.tight.beyond, K.holds, K.starts, W, eg ∙ e),
            )
          ]

module _ (m : Scale) (net : Net) (t : ℕ) where
  pub backup_one : (k : ℕ) (ks js : List ℕ) → Backup m net t k ks → Backup m net t k js → ks ≡ js
  backup_one k ks js (l, h, H) (i, f, I) =
      let q = same_link net k l i h f in
      held_one (plain m) (at_risk k net) t l.tail ks js H (subst (λ x. Held (plain m) (at_risk k net) t x.tail js) (sym q) I)

  -- The trace is one.
  pub traced_one : (fails : ℕ → Bool) (u : ℕ) (ks js : List ℕ) → Traced m net t fails u ks → Traced m net t fails u js → ks ≡ js
  traced_one fails u ks js (arrived p) (arrived q) = refl
  traced_one fails u ks js (arrived p) (onward {k = k} {l = l} K e r) = absurd (next_away (worst m net t) net t u k l K p)
  traced_one fails u ks js (arrived p) (turned {k = k} {l = l} K e B) = absurd (next_away (worst m net t) net t u k l K p)
  traced_one fails u ks js (onward {k = k} {l = l} K e r) (arrived q) = absurd (next_away (worst m net t) net t u k l K q)
  traced_one fails u ks js (turned {k = k} {l = l} K e B) (arrived q) = absurd (next_away (worst m net t) net t u k l K q)
  traced_one fails u ks js (onward {k = k} {l = l} {ks = k1} K e r) (onward {k = j} {l = i} {ks = k2} J f s) =
      let q = next_one (worst m net t) net t u k j l i K J in
      let z = same_at net j k i l (sym q) J.holds K.holds in
      let s' : Traced m net t fails l.head k2 = subst (λ x. Traced m net t fails x.head k2) z s in
      let y = traced_one fails l.head k1 k2 r s' in
      cc
  traced_one fails u ks js (onward {k = k} {l = l} K e r) (turned {k = j} {l = i} J f B) =
      let q = next_one (worst m net t) net t u k j l i K J in
      absurd (both_ways (fails k) e (ap fails q ∙ f))
  traced_one fails u ks js (turned {k = k} {l = l} K e B) (onward {k = j} {l = i} J f s) =
      let q = next_one (worst m net t) net t u k j l i K J in
      absurd (both_ways (fails k) (ap fails q ∙ f) e)
  traced_one fails u ks js (turned {k = k} {l = l} K e B) (turned {k = j} {l = i} J f C) =
      backup_one k ks js B (subst (λ x. Backup m net t x js) (sym (next_one (worst m net t) net t u k j l i K J)) C)
