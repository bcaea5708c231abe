-- Claims on a network under a measure, decided by computing: the labels are found, tested, and read.
use Rattle.std.proofs.Common.{◌≡◌, ℕ, zero, suc, ◌^◌, Bool, true, false, cond, not, ◌&&◌, eqb, ltb, leb, ◌↔◌, List, [], ◌∷◌, length, get_or, set, replicate, Some, None, Option, sym, refl, ap, ◌∙◌, subst}
use mathlib.Core.HLevel.{⊥_prop}
use mathlib.Core.Logic.{∥∥₁_elim}
use Rattle.std.proofs.lemmas.Bool.{and_parts, and_from, eqb-true, eqb-false, eq-eqb, ne_eqb, leb-true, ltb-true, not-true, both_ways}
use Rattle.std.specs.Fn.{iterate}
use Rattle.std.specs.Option.{is_none}
use Rattle.definitions.specs.declared.Link.{Link}
use Rattle.definitions.specs.declared.Failure.{Failure}
use Rattle.definitions.specs.Networks.{Net, Holds, Limits, place, risks, at_risk, failed}
use Rattle.definitions.specs.Measures.{Scale, Laws}
use Rattle.definitions.specs.Routes.{Valuation, RouteValue, NoRoute, Tight, Next, Held}
use Rattle.definitions.specs.Plans.{plain, worst, Recovery, Guarantee, Backup, Traced, arrived, onward, turned, Counted, none, one, skip, Planned}
use Rattle.definitions.specs.Searches.{given, Labels, Nexts}
use Rattle.definitions.specs.Example.{Claim, recovery, no_recovery, worst_value, guarantee, no_guarantee, planned, tight_links, steps, next_link, held, backup, trace, among, TracedAll, True, AllTrue, Case, AllCases, Kind, by_delay, by_width, scale, table}
use Rattle.definitions.proofs.Fixpoint.{Lawful, label_best, label_none}
use Rattle.definitions.proofs.Following.{next_label, steps_label, tight_labels, labels_tight}
use Rattle.definitions.proofs.Layers.{without_limits, same_link}
use Rattle.definitions.proofs.Lawfuls.{Value, plain_lawful, worst_lawful}
use Rattle.definitions.proofs.Givens.{made, made_via, via_made, Recoveries, recoveries_lawful, worst_labels, worst_nexts, starts_lawful, plain_labels, plain_nexts, given_via, worst_via}
use Rattle.definitions.proofs.Scales.{delay_laws, width_laws}
use Rattle.definitions.proofs.Mains.{recovery_exists}
use Rattle.definitions.proofs.Sheets.{some_and, some_and_at, every, every_at, Sheet, right?, Right, right, sheet_labels, sheet_nexts}

-- Finding the labels. Nothing is proved of this: what it finds is tested.

abbrev sweep : {X : Type 0} → (ℕ → Link → X → X) → ℕ → List (Option Link) → X → X
sweep f k [] x = x
sweep f k (None ∷ ps) x = sweep f (suc k) ps x
sweep f k (Some l ∷ ps) x = sweep f (suc k) ps (f k l x)

abbrev better : Scale → Option ℕ → ℕ → Option ℕ
better m None w = Some w
better m (Some a) w = cond (m.no_worse a w) (Some a) (Some w)

abbrev fewer : Option ℕ → ℕ → Option ℕ
fewer None n = Some n
fewer (Some a) n = cond (leb a n) (Some a) (Some n)

abbrev met? : Scale → ℕ → (ℕ → Option ℕ) → List (Option ℕ) → ℕ → Link → Bool
met? m t r vs k l = not (eqb l.tail t) && some_and (place vs l.head) (λ b. some_and (made m r k l b) (λ w. some_and (place vs l.tail) (λ a. eqb a w)))

abbrev offer : Scale → ℕ → (ℕ → Option ℕ) → ℕ → Link → List (Option ℕ) → List (Option ℕ)
offer m t r k l vs =
    elim (place vs l.head) [
      | None ↦ vs
      | Some b ↦ elim (made m r k l b) [ None ↦ vs | Some w ↦ cond (eqb l.tail t) vs (set vs l.tail (better m (place vs l.tail) w)) ]
    ]

abbrev step : Scale → ℕ → (ℕ → Option ℕ) → List (Option ℕ) → ℕ → Link → List (Option ℕ) → List (Option ℕ)
step m t r vs k l ss =
    elim (place ss l.head) [ None ↦ ss | Some n ↦ cond (met? m t r vs k l) (set ss l.tail (fewer (place ss l.tail) (suc n))) ss ]

abbrev pick : Scale → ℕ → (ℕ → Option ℕ) → List (Option ℕ) → List (Option ℕ) → ℕ → Link → List (Option ℕ) → List (Option ℕ)
pick m t r vs ss k l ns =
    elim (place ns l.tail) [
      | Some j ↦ ns
      | None ↦ cond (met? m t r vs k l && some_and (place ss l.head) (λ n. some_and (place ss l.tail) (λ c. eqb c (suc n)))) (set ns l.tail (Some k)) ns
    ]

abbrev solve : Scale → Net → ℕ → (ℕ → Option ℕ) → Sheet
solve m net t r =
    let blank : List (Option ℕ) = replicate net.nodes None in
    let vs = iterate (sweep (offer m t r) 0 net.places) net.nodes (set blank t (Some m.start)) in
    let ss = iterate (sweep (step m t r vs) 0 net.places) net.nodes (set blank t (Some 0)) in
    record { values = vs; steps = ss; nexts = sweep (pick m t r vs ss) 0 net.places blank }

abbrev starts : Scale → ℕ → Option ℕ
starts m k = Some m.start

abbrev solve_layers : Scale → Net → ℕ → ℕ → List (Option Link) → List Sheet
solve_layers m net t k [] = []
solve_layers m net t k (p ∷ ps) = solve m (at_risk k net) t (starts m) ∷ solve_layers m net t (suc k) ps

abbrev layer_at : List Sheet → ℕ → Sheet
layer_at shs k = get_or shs k (record { values = []; steps = []; nexts = [] })

abbrev recovered : Net → List Sheet → ℕ → Option ℕ
recovered net shs k = elim (place net.places k) [ None ↦ None | Some l ↦ place (layer_at shs k).values l.tail ]

-- all labels: of each layer "at risk with k", and of the network
pub record Book : Type 0 where
  pub layers : List Sheet
  pub main : Sheet

abbrev pub solve_all : Scale → Net → ℕ → Book
solve_all m net t =
    let shs = solve_layers m net t 0 net.places in
    record { layers = shs; main = solve m net t (recovered net shs) }

-- The test of all labels.
abbrev pub sound? : Net → ℕ → Link → Bool
sound? net k l =
    ltb l.tail net.nodes && (ltb l.head net.nodes && (not (eqb l.tail l.head) && (ltb l.figure (2 ^ 32) && ltb l.groups (2 ^ 32))))

abbrev pub limits? : Net → Bool
limits? net = leb net.nodes 256 && (leb (length net.places) 1024 && every (sound? net) net.places)

pub limits_right : (net : Net) → limits? net ≡ true → Limits net
limits_right net h =
    let (a, p) = and_parts _ _ h in
    let (b, q) = and_parts _ _ p in
    record {
      few_nodes = leb-true _ _ a;
      few_places = leb-true _ _ b;
      sound = λ k l hl.
          let x = every_at (sound? net) net.places k l q hl in
          let (c, y) = and_parts (ltb l.tail net.nodes) _ x in
          let (d, z) = and_parts (ltb l.head net.nodes) _ y in
          let (e, w) = and_parts (not (eqb l.tail l.head)) _ z in
          let (f, g) = and_parts (ltb l.figure (2 ^ 32)) _ w in
          (ltb-true _ _ c, ltb-true _ _ d, eqb-false _ _ (not-true _ e), ltb-true _ _ f, ltb-true _ _ g);
    }

abbrev pub layers_right? : Scale → Net → ℕ → Book → Bool
layers_right? m net t bk = every (λ k l. right? m (at_risk k net) t (starts m) (layer_at bk.layers k)) net.places

abbrev pub all_right? : Scale → Net → ℕ → Book → Bool
all_right? m net t bk = limits? net && (layers_right? m net t bk && right? m net t (recovered net bk.layers) bk.main)

-- A next link, by a sheet.
abbrev next? : Sheet → ℕ → ℕ → ℕ → Bool
next? sh t u k = not (eqb u t) && (some_and (place sh.steps u) (λ n. true) && some_and (place sh.nexts u) (λ j. eqb j k))

-- A held route, by a sheet.
abbrev held? : Net → Sheet → ℕ → ℕ → List ℕ → Bool
held? net sh t u [] = eqb u t
held? net sh t u (k ∷ ks) = next? sh t u k && some_and (place net.places k) (λ l. held? net sh t l.head ks)

module _ (ρ : Valuation) (net : Net) (t : ℕ) (L : Lawful ρ net Value) (sh : Sheet) (S : Labels ρ net t (place sh.values)) (X : Nexts ρ net t (place sh.steps) (place sh.nexts)) where
  pub next_right : (u k : ℕ) → next? sh t u k ≡ true → (l : Link) × Next ρ net t u k l
  next_right u k h =
      let (a, p) = and_parts (not (eqb u t)) _ h in
      let (b, q) = and_parts (some_and (place sh.steps u) (λ n. true)) _ p in
      let (n, en, _) = some_and_at (place sh.steps u) _ b in
      let (j, ej, z) = some_and_at (place sh.nexts u) _ q in
      let (i, l, ei, K, _) = next_label ρ net t Value L (place sh.values) S (place sh.steps) (place sh.nexts) X u n en (eqb-false u t (not-true _ a)) in
      let jk : j ≡ k = eqb-true j k z in
      let ik : i ≡ k = cc in
      (l, subst (λ x. Next ρ net t u x l) ik K)

  pub held_right : (u : ℕ) (ks : List ℕ) → held? net sh t u ks ≡ true → Held ρ net t u ks
  held_right u [] h = eqb-true u t h
  held_right u (k ∷ ks) h =
      let (a, p) = and_parts (next? sh t u k) _ h in
      let (l, K) = next_right u k a in
      let (i, ei, q) = some_and_at (place net.places k) _ p in
      let z = same_link net k i l ei K.holds in
      (l, K, subst (λ x. Held ρ net t x.head ks) z (held_right i.head ks q))

-- The value of a route, by what each link makes, passes p.
abbrev value? : (ℕ → Link → ℕ → Option ℕ) → ℕ → Net → ℕ → ℕ → List ℕ → (ℕ → Bool) → Bool
value? f st net t u [] p = eqb u t && p st
value? f st net t u (k ∷ ks) p =
    some_and (place net.places k) (λ l. eqb l.tail u && value? f st net t l.head ks (λ v. some_and (f k l v) p))

pub value_right : (ρ : Valuation) (f : ℕ → Link → ℕ → Option ℕ) (net : Net) (t : ℕ) → ((k : ℕ) (l : Link) (v w : ℕ) → Holds net k l → f k l v ≡ Some w → ρ.via k l v w) →
    (u : ℕ) (ks : List ℕ) (p : ℕ → Bool) → value? f ρ.start net t u ks p ≡ true → (w : ℕ) × RouteValue ρ net t u ks w × (p w ≡ true)
value_right ρ f net t mk u [] p h = let (a, b) = and_parts (eqb u t) _ h in (ρ.start, (eqb-true u t a, refl), b)
value_right ρ f net t mk u (k ∷ ks) p h =
    let (l, el, q) = some_and_at (place net.places k) _ h in
    let (a, b) = and_parts (eqb l.tail u) _ q in
    let (v, W, c) = value_right ρ f net t mk l.head ks (λ v. some_and (f k l v) p) b in
    let (w, ew, z) = some_and_at (f k l v) p c in
    (w, (l, v, el, eqb-true l.tail u a, W, mk k l v w el ew), z)

-- How many of the first n have a label.
abbrev count : (ℕ → Option ℕ) → ℕ → ℕ
count d zero = 0
count d (suc n) = elim (d n) [ None ↦ count d n | Some a ↦ suc (count d n) ]

none_is : (o : Option ℕ) → is_none o ≡ true → o ≡ None
none_is None e = refl
none_is (Some a) e = absurd (both_ways false refl e)

-- The trace, by all labels.
abbrev traced? : Net → Book → ℕ → (ℕ → Bool) → ℕ → List ℕ → Bool
traced? net bk t fails u [] = eqb u t
traced? net bk t fails u (k ∷ ks) =
    some_and (place bk.main.nexts u) (λ j. next? bk.main t u j && cond (fails j)
    (held? (at_risk j net) (layer_at bk.layers j) t u (k ∷ ks))
    (eqb j k && some_and (place net.places k) (λ l. traced? net bk t fails l.head ks)))

abbrev same : Bool → Bool → Bool
same a b = cond a b (not b)

same_to : (a b : Bool) → same a b ≡ true → a ≡ true → b ≡ true
same_to a b h e = subst (λ x. same x b ≡ true) e h

same_from : (a b : Bool) → same a b ≡ true → b ≡ true → a ≡ true
same_from true b h e = refl
same_from false b h e = absurd (both_ways b (not-true b h) e)

some_and_from : {X : Type 0} (o : Option X) (f : X → Bool) (x : X) → o ≡ Some x → f x ≡ true → some_and o f ≡ true
some_and_from o f x e h = subst (λ z. some_and z f ≡ true) (sym e) h

abbrev traced_all? : Net → Book → ℕ → ℕ → List ℕ → List Failure → Bool
traced_all? net bk t u ks [] = true
traced_all? net bk t u ks (f ∷ fs) = traced? net bk t (failed net f) u ks && traced_all? net bk t u ks fs

abbrev recovery? : Net → Book → ℕ → (Option ℕ → Bool) → Bool
recovery? net bk k p = some_and (place net.places k) (λ l. p (place (layer_at bk.layers k).values l.tail))

abbrev claim? : Scale → Net → ℕ → Book → Claim → Bool
claim? m net t bk (recovery k r) = recovery? net bk k (λ o. some_and o (λ x. eqb x r))
claim? m net t bk (no_recovery k) = recovery? net bk k (λ o. is_none o)
claim? m net t bk (worst_value u ks v) = value? (made m (recovered net bk.layers)) m.start net t u ks (λ w. eqb w v)
claim? m net t bk (guarantee u g) = some_and (place bk.main.values u) (λ a. eqb a g)
claim? m net t bk (no_guarantee u) = is_none (place bk.main.values u)
claim? m net t bk (planned c) = eqb (count (place bk.main.values) net.nodes) c
claim? m net t bk (tight_links ks) = every (λ k l. same (met? m t (recovered net bk.layers) bk.main.values k l) (among k ks)) net.places
claim? m net t bk (steps u n) = some_and (place bk.main.steps u) (λ c. eqb c n)
claim? m net t bk (next_link u k) = next? bk.main t u k
claim? m net t bk (held u ks) = held? net bk.main t u ks
claim? m net t bk (backup u ks) = some_and (place bk.main.nexts u) (λ k. next? bk.main t u k && held? (at_risk k net) (layer_at bk.layers k) t u ks)
claim? m net t bk (trace u fs ks v) = traced_all? net bk t u ks fs && value? (λ k l x. Some (m.extend x l.figure)) m.start net t u ks (λ w. eqb w v)

abbrev claims? : Scale → Net → ℕ → Book → List Claim → Bool
claims? m net t bk [] = true
claims? m net t bk (c ∷ cs) = claim? m net t bk c && claims? m net t bk cs

module _ (m : Scale) (M : Laws m) (net : Net) (t : ℕ) (bk : Book) (ok : all_right? m net t bk ≡ true) where
  lim : Limits net
  lim = limits_right net (and_parts (limits? net) _ ok).0

  rest_ok : (layers_right? m net t bk && right? m net t (recovered net bk.layers) bk.main) ≡ true
  rest_ok = (and_parts (limits? net) _ ok).1

  abbrev rec : ℕ → Option ℕ
  rec = recovered net bk.layers

  abbrev val : ℕ → Option ℕ
  val u = place bk.main.values u

  abbrev stp : ℕ → Option ℕ
  stp u = place bk.main.steps u

  abbrev nxt : ℕ → Option ℕ
  nxt u = place bk.main.nexts u

  -- the layer "at risk with k"
  module _ (k : ℕ) (l : Link) (h : Holds net k l) where
    llim : Limits (at_risk k net)
    llim = without_limits (risks net k) net lim

    llawful : Lawful (plain m) (at_risk k net) Value
    llawful = plain_lawful m M (at_risk k net) llim

    lright : Right m (at_risk k net) t (starts m) (layer_at bk.layers k)
    lright = right m (at_risk k net) t (starts m) (layer_at bk.layers k)
        (every_at (λ j i. right? m (at_risk j net) t (starts m) (layer_at bk.layers j)) net.places k l (and_parts (layers_right? m net t bk) _ rest_ok).0 h)

    glabels : Labels (given m (starts m)) (at_risk k net) t (place (layer_at bk.layers k).values)
    glabels = sheet_labels m (at_risk k net) t (starts m) (layer_at bk.layers k) lright

    llabels : Labels (plain m) (at_risk k net) t (place (layer_at bk.layers k).values)
    llabels = plain_labels m M (at_risk k net) llim t (starts m) (λ j i hj. refl) _ glabels

    lnexts : Nexts (plain m) (at_risk k net) t (place (layer_at bk.layers k).steps) (place (layer_at bk.layers k).nexts)
    lnexts = plain_nexts m M (at_risk k net) llim t (starts m) (λ j i hj. refl) _ glabels _ _
        (sheet_nexts m (at_risk k net) t (starts m) (layer_at bk.layers k) lright (starts_lawful m M (at_risk k net) llim t (starts m) (λ j i hj. refl)))

    recovery_some : (x : ℕ) → place (layer_at bk.layers k).values l.tail ≡ Some x → Recovery m net t k l x
    recovery_some x e = label_best (plain m) (at_risk k net) t Value llawful _ llabels l.tail x e

    recovery_none : place (layer_at bk.layers k).values l.tail ≡ None → NoRoute (plain m) (at_risk k net) t l.tail
    recovery_none e = label_none (plain m) (at_risk k net) t Value llawful _ llabels l.tail e

    recovered_at : rec k ≡ place (layer_at bk.layers k).values l.tail
    recovered_at = rw (h, recovered)

  recoveries : Recoveries m M net lim t rec
  recoveries = record {
    some = λ k l x h e. recovery_some k l h x (sym (recovered_at k l h) ∙ e);
    none = λ k l h e. recovery_none k l h (sym (recovered_at k l h) ∙ e);
  }

  mright : Right m net t rec bk.main
  mright = right m net t rec bk.main (and_parts (layers_right? m net t bk) _ rest_ok).1

  mlabels : Labels (given m rec) net t val
  mlabels = sheet_labels m net t rec bk.main mright

  labels : Labels (worst m net t) net t val
  labels = worst_labels m M net lim t rec recoveries val mlabels

  nexts : Nexts (worst m net t) net t stp nxt
  nexts = worst_nexts m M net lim t rec recoveries val stp nxt mlabels (sheet_nexts m net t rec bk.main mright (recoveries_lawful m M net lim t rec recoveries))

  lawful : Lawful (worst m net t) net Value
  lawful = worst_lawful m M net lim t

  made_worst : (k : ℕ) (l : Link) (v w : ℕ) → Holds net k l → made m rec k l v ≡ Some w → (worst m net t).via k l v w
  made_worst k l v w h e = given_via m M net lim t rec recoveries k l v w h (made_via m rec k l v w e)

  -- Reading the labels.
  pub guarantee_right : (u g : ℕ) → val u ≡ Some g → Guarantee m net t u g
  guarantee_right u g e = label_best (worst m net t) net t Value lawful val labels u g e

  pub no_guarantee_right : (u : ℕ) → val u ≡ None → NoRoute (worst m net t) net t u
  no_guarantee_right u e = label_none (worst m net t) net t Value lawful val labels u e

  main_next : (u k : ℕ) → next? bk.main t u k ≡ true → (l : Link) × Next (worst m net t) net t u k l
  main_next u k h = next_right (worst m net t) net t lawful bk.main labels nexts u k h

  layer_held : (u k : ℕ) (l : Link) (ks : List ℕ) → Next (worst m net t) net t u k l → held? (at_risk k net) (layer_at bk.layers k) t u ks ≡ true → Backup m net t k ks
  layer_held u k l ks K h =
      let H = held_right (plain m) (at_risk k net) t (llawful k l K.holds) (layer_at bk.layers k)
      (llabels k l K.holds) (lnexts k l K.holds) u ks h in
      (l, K.holds, subst (λ x. Held (plain m) (at_risk k net) t x ks) (sym K.starts) H)

  traced_right : (fails : ℕ → Bool) (u : ℕ) (ks : List ℕ) → traced? net bk t fails u ks ≡ true → Traced m net t fails u ks
  traced_right fails u [] h = arrived (eqb-true u t h)
  traced_right fails u (k ∷ ks) h =
      let (j, ej, p) = some_and_at (nxt u) _ h in
      let (a, q) = and_parts (next? bk.main t u j) _ p in
      let (l, J) = main_next u j a in
      go j l J (fails j) refl q (λ i. traced_right fails i.head ks)
    where
      go : (j : ℕ) (l : Link) → Next (worst m net t) net t u j l → (b : Bool) → fails j ≡ b →
          cond b (held? (at_risk j net) (layer_at bk.layers j) t u (k ∷ ks)) (eqb j k && some_and (place net.places k) (λ i. traced? net bk t fails i.head ks)) ≡ true →
          ((i : Link) → traced? net bk t fails i.head ks ≡ true → Traced m net t fails i.head ks) → Traced m net t fails u (k ∷ ks)
      go j l J true e h rest = turned J e (layer_held u j l (k ∷ ks) J h)
      go j l J false e h rest =
          let (a, p) = and_parts (eqb j k) _ h in
          let (i, ei, q) = some_and_at (place net.places k) _ p in
          let jk = eqb-true j k a in
          let K : Next (worst m net t) net t u k l = subst (λ x. Next (worst m net t) net t u x l) jk J in
          let z = same_link net k i l ei K.holds in
          onward K (sym (ap fails jk) ∙ e) (subst (λ x. Traced m net t fails x.head ks) z (rest i q))

  counted : (n : ℕ) → Counted (λ u. ∥ ((g : ℕ) × Guarantee m net t u g) ∥₁) n (count val n)
  counted zero = none
  counted (suc n) = go (val n) refl (counted n)
    where
      go : (o : Option ℕ) → val n ≡ o → Counted (λ u. ∥ ((g : ℕ) × Guarantee m net t u g) ∥₁) n (count val n) →
          Counted (λ u. ∥ ((g : ℕ) × Guarantee m net t u g) ∥₁) (suc n) (elim o [ None ↦ count val n | Some a ↦ suc (count val n) ])
      go None e ih = skip (λ x. ∥∥₁_elim x ⊥_prop (λ g. ∥∥₁_elim g.1.reached ⊥_prop (λ c. no_guarantee_right n e c.0 g.0 c.1))) ih
      go (Some g) e ih = one ∣ (g, guarantee_right n g e) ∣₁ ih

  traced_all_right : (u : ℕ) (ks : List ℕ) (fs : List Failure) → traced_all? net bk t u ks fs ≡ true → TracedAll m net t u ks fs
  traced_all_right u ks [] h = tt
  traced_all_right u ks (f ∷ fs) h =
      let (a, b) = and_parts (traced? net bk t (failed net f) u ks) _ h in
      (traced_right (failed net f) u ks a, traced_all_right u ks fs b)

  -- which links are tight, by the labels
  abbrev tight? : ℕ → Link → Bool
  tight? k l = met? m t rec bk.main.values k l

  tight_to : (k : ℕ) (l : Link) → Holds net k l → tight? k l ≡ true → Tight (worst m net t) net t k l
  tight_to k l h e =
      let (n, e1) = and_parts (not (eqb l.tail t)) _ e in
      let (b, hb, e2) = some_and_at (val l.head) _ e1 in
      let (w, hw, e3) = some_and_at (made m rec k l b) _ e2 in
      let (a, ha, e4) = some_and_at (val l.tail) _ e3 in
      tight_labels (worst m net t) net t Value lawful val labels k l b a
      (eqb-false l.tail t (not-true _ n)) hb ha (subst (λ x. (worst m net t).via k l b x) (sym (eqb-true a w e4)) (made_worst k l b w h hw))

  tight_from : (k : ℕ) (l : Link) → Holds net k l → Tight (worst m net t) net t k l → tight? k l ≡ true
  tight_from k l h T =
      let (b, a, hb, ha, v) = labels_tight (worst m net t) net t Value lawful val labels k l T in
      let g = worst_via m M net lim t rec recoveries k l b a h v in
      and_from (not (eqb l.tail t)) _ (ap not (ne_eqb l.tail t T.elsewhere))
      (some_and_from (val l.head) _ b hb
      (some_and_from (made m rec k l b) _ a (via_made m rec k l b a g)
      (some_and_from (val l.tail) _ a ha (eq-eqb a a refl))))

  tight_right : (ks : List ℕ) → every (λ k l. same (tight? k l) (among k ks)) net.places ≡ true →
      (k : ℕ) (l : Link) → Holds net k l → Tight (worst m net t) net t k l ↔ (among k ks ≡ true)
  tight_right ks e k l h =
      let z = every_at (λ j i. same (tight? j i) (among j ks)) net.places k l e h in (
        λ T. same_to (tight? k l) (among k ks) z (tight_from k l h T),
        λ q. tight_to k l h (same_from (tight? k l) (among k ks) z q),
      )

  recovery_right : (k : ℕ) (p : Option ℕ → Bool) → recovery? net bk k p ≡ true →
      (l : Link) × Holds net k l × (p (place (layer_at bk.layers k).values l.tail) ≡ true)
  recovery_right k p h = some_and_at (place net.places k) _ h

  claim_right : (c : Claim) → claim? m net t bk c ≡ true → True m net t c
  claim_right (recovery k r) h =
      let (l, hl, q) = recovery_right k (λ o. some_and o (λ x. eqb x r)) h in
      let (x, ex, z) = some_and_at (place (layer_at bk.layers k).values l.tail) (λ x. eqb x r) q in
      (l, hl, recovery_some k l hl r (ex ∙ ap Some (eqb-true x r z)))
  claim_right (no_recovery k) h =
      let (l, hl, q) = recovery_right k is_none h in (
        l,
        hl,
        λ some.
            let (r, R) = (recovery_exists m M net lim t k l).0 some in
            ∥∥₁_elim R.reached ⊥_prop (λ (ks, W). recovery_none k l hl (none_is _ q) ks r W),
      )
  claim_right (worst_value u ks v) h =
      let (w, W, z) = value_right (worst m net t) (made m rec) net t made_worst u ks (λ w. eqb w v) h in
      subst (λ x. RouteValue (worst m net t) net t u ks x) (eqb-true w v z) W
  claim_right (guarantee u g) h = let (a, ea, z) = some_and_at (val u) _ h in guarantee_right u g (ea ∙ ap Some (eqb-true a g z))
  claim_right (no_guarantee u) h = no_guarantee_right u (none_is _ h)
  claim_right (planned c) h = subst (λ x. Planned m net t x) (eqb-true _ _ h) (counted net.nodes)
  claim_right (tight_links ks) h = tight_right ks h
  claim_right (steps u n) h =
      let (c, ec, z) = some_and_at (stp u) _ h in
      steps_label (worst m net t) net t Value lawful val labels
      stp nxt nexts u n (ec ∙ ap Some (eqb-true c n z))
  claim_right (next_link u k) h = main_next u k h
  claim_right (held u ks) h = held_right (worst m net t) net t lawful bk.main labels nexts u ks h
  claim_right (backup u ks) h =
      let (k, ek, p) = some_and_at (nxt u) _ h in
      let (a, q) = and_parts (next? bk.main t u k) _ p in
      let (l, K) = main_next u k a in
      (k, l, K, layer_held u k l ks K q)
  claim_right (trace u fs ks v) h =
      let (a, b) = and_parts (traced_all? net bk t u ks fs) _ h in
      let (w, W, z) = value_right (plain m) (λ k l x. Some (m.extend x l.figure)) net t (λ k l x w hl e. let q : m.extend x l.figure ≡ w = cc in sym q) u ks (λ w. eqb w v) b in
      (traced_all_right u ks fs a, subst (λ x. RouteValue (plain m) net t u ks x) (eqb-true w v z) W)

  pub claims_right : (cs : List Claim) → claims? m net t bk cs ≡ true → AllTrue m net t cs
  claims_right [] h = tt
  claims_right (c ∷ cs) h = let (a, b) = and_parts (claim? m net t bk c) _ h in (claim_right c a, claims_right cs b)

pub scale_laws : (k : Kind) → Laws (scale k)
scale_laws by_delay = delay_laws
scale_laws by_width = width_laws

abbrev case? : ℕ → Case → Bool
case? t c = let bk = solve_all (scale c.kind) c.network t in all_right? (scale c.kind) c.network t bk && claims? (scale c.kind) c.network t bk c.claims

abbrev cases? : ℕ → List Case → Bool
cases? t [] = true
cases? t (c ∷ cs) = case? t c && cases? t cs

pub cases_right : (t : ℕ) (cs : List Case) → cases? t cs ≡ true → AllCases t cs
cases_right t [] h = tt
cases_right t (c ∷ cs) h =
    let (a, b) = and_parts (case? t c) _ h in
    let bk = solve_all (scale c.kind) c.network t in
    let (p, q) = and_parts (all_right? (scale c.kind) c.network t bk) _ a in
    (claims_right (scale c.kind) (scale_laws c.kind) c.network t bk p c.claims q, cases_right t cs b)

pub table_right : AllCases 3 table
table_right = cases_right 3 table refl
