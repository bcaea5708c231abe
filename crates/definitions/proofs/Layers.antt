-- What a layer holds, and that it keeps the limits of a network.
use Rattle.std.proofs.Common.{◌≡◌, ℕ, zero, suc, ◌<◌, ◌≤◌, Bool, true, false, cond, eqb, List, [], ◌∷◌, length, get_or, Some, None, Option, sym, refl, ap, ◌∙◌, subst, inl, inr, arith}
use Rattle.std.proofs.lemmas.Bool.{cond-true, cond-false, or_left, or_right, or_from, eq-eqb, ne_eqb, cases_lt}
use Rattle.std.proofs.lemmas.List.{get_or_past}
use Rattle.std.proofs.lemmas.Option.{none-some}
use Rattle.definitions.specs.declared.Link.{Link}
use Rattle.definitions.specs.Networks.{Net, Holds, Limits, place, emptied, without, share_group, risks, at_risk}
use Rattle.definitions.specs.Routes.{Route, Clear}

pub place_emptied : (gone : ℕ → Bool) (ps : List (Option Link)) (k : ℕ) → place (emptied gone ps) k ≡ cond (gone k) None (place ps k)
place_emptied gone [] k = elim (gone k) as (λ b. ◌≡◌ {A = Option Link} None (cond b None None)) [ true ↦ refl | false ↦ refl ]
place_emptied gone (p ∷ ps) zero = refl
place_emptied gone (p ∷ ps) (suc k) = place_emptied (λ j. gone (suc j)) ps k

pub length_emptied : (gone : ℕ → Bool) (ps : List (Option Link)) → length (emptied gone ps) ≡ length ps
length_emptied gone [] = refl
length_emptied gone (p ∷ ps) = ap suc (length_emptied (λ j. gone (suc j)) ps)

-- A link of a layer is one of the network below that is not gone, and the other way round.
pub below : (gone : ℕ → Bool) (net : Net) (k : ℕ) (l : Link) → Holds (without gone net) k l → Holds net k l × (gone k ≡ false)
below gone net k l h = go (gone k) (place net.places k) (sym (place_emptied gone net.places k) ∙ h)
  where
    go : (b : Bool) (o : Option Link) → cond b None o ≡ Some l → (o ≡ Some l) × (b ≡ false)
    go true o e = absurd (none-some l e)
    go false o e = (e, refl)

pub above : (gone : ℕ → Bool) (net : Net) (k : ℕ) (l : Link) → Holds net k l → gone k ≡ false → Holds (without gone net) k l
above gone net k l h e = place_emptied gone net.places k ∙ subst (λ b. cond b None (place net.places k) ≡ Some l) (sym e) h

pub without_limits : (gone : ℕ → Bool) (net : Net) → Limits net → Limits (without gone net)
without_limits gone net L =
    record {
      few_nodes = L.few_nodes;
      few_places = rw length_emptied L.few_places;
      sound = λ k l h. L.sound k l (below gone net k l h).0;
    }

-- A route of a layer is a route of the network below that passes no place that is gone, and the other way round.
pub layer_route : (gone : ℕ → Bool) (net : Net) (t u : ℕ) (ks : List ℕ) → Route (without gone net) t u ks → Route net t u ks × Clear gone ks
layer_route gone net t u [] p = (p, tt)
layer_route gone net t u (k ∷ ks) (l, h, e, r) =
    let (hn, safe) = below gone net k l h in
    let (q, c) = layer_route gone net t l.head ks r in
    ((l, hn, e, q), (safe, c))

pub route_layer : (gone : ℕ → Bool) (net : Net) (t u : ℕ) (ks : List ℕ) → Route net t u ks → Clear gone ks → Route (without gone net) t u ks
route_layer gone net t u [] p c = p
route_layer gone net t u (k ∷ ks) (l, h, e, r) (safe, c) = (l, above gone net k l h safe, e, route_layer gone net t l.head ks r c)

-- Two links at one place are the same.
pub same_link : (net : Net) (k : ℕ) (l i : Link) → Holds net k l → Holds net k i → l ≡ i
same_link net k l i p q = cc

pub same_at : (net : Net) (j k : ℕ) (i l : Link) → j ≡ k → Holds net j i → Holds net k l → i ≡ l
same_at net j k i l z p q = cc

-- What is so of the link at one place is so wherever that place and its link are named.
pub so_at : (net : Net) (P : ℕ → Link → Type 0) (j k : ℕ) (i l : Link) → j ≡ k → Holds net j i → Holds net k l → P k l → P j i
so_at net P j k i l z p q x = subst (λ y. P y i) (sym z) (subst (P k) (sym (same_at net j k i l z p q)) x)

-- What the layer "at risk with k" holds at j: nothing at k, nothing at a link that shares a group, and else what was there.
pub risk_same : (net : Net) (k j : ℕ) → j ≡ k → place (at_risk k net).places j ≡ None
risk_same net k j e = place_emptied (risks net k) net.places j ∙ cond-true _ _ _ (or_left (eqb j k) _ (eq-eqb j k e))

pub risk_shared : (net : Net) (k j : ℕ) → share_group (place net.places j) (place net.places k) ≡ true → place (at_risk k net).places j ≡ None
risk_shared net k j e = place_emptied (risks net k) net.places j ∙ cond-true _ _ _ (or_right (eqb j k) _ e)

pub risk_apart : (net : Net) (k j : ℕ) → (j ≡ k → ⊥) → share_group (place net.places j) (place net.places k) ≡ false → place (at_risk k net).places j ≡ place net.places j
risk_apart net k j n e = place_emptied (risks net k) net.places j ∙ cond-false _ _ _ (or_from (eqb j k) _ (ne_eqb j k n) e)

-- What is read at an index is what the place holds.
pub place_read : {X : Type 0} (ps : List (Option X)) (k : ℕ) (x : Option X) → k < length ps → x ≡ get_or ps k x → x ≡ place ps k
place_read [] k x h e = absurd (omega arith)
place_read (p ∷ ps) zero x h e = e
place_read (p ∷ ps) (suc k) x h e = place_read ps k x (omega arith) e

-- Past the end a place holds nothing, so a link stands before the end.
pub place_past : {X : Type 0} (ps : List (Option X)) (k : ℕ) → length ps ≤ k → place ps k ≡ None
place_past ps k h = get_or_past ps k None h

pub inside : (net : Net) (k : ℕ) (l : Link) → Holds net k l → k < length net.places
inside net k l h = elim (cases_lt k (length net.places)) [
  | inl p ↦ p
  | inr p ↦ absurd (none-some l (sym (place_past net.places k p) ∙ h))
]
