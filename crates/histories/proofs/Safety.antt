-- A route has at most one plain value.
use Rattle.std.proofs.Common.{◌≡◌, ℕ, List, [], ◌∷◌, sym, ap, ◌∙◌, subst}
use Rattle.definitions.specs.Networks.{Net}
use Rattle.definitions.specs.Measures.{Scale}
use Rattle.definitions.specs.Routes.{RouteValue}
use Rattle.definitions.specs.Plans.{plain}
use Rattle.definitions.proofs.Layers.{same_link}

pub value_one : (m : Scale) (net : Net) (t u : ℕ) (ks : List ℕ) (v w : ℕ) → RouteValue (plain m) net t u ks v → RouteValue (plain m) net t u ks w → v ≡ w
value_one m net t u [] v w (p, e) (q, f) = e ∙ sym f
value_one m net t u (k ∷ ks) v w (l, a, h, e, r, p) (i, b, g, f, s, q) =
    let z : i ≡ l = same_link net k i l g h in
    let s' : RouteValue (plain m) net t l.head ks b = subst (λ x. RouteValue (plain m) net t x.head ks b) z s in
    let y : a ≡ b = value_one m net t l.head ks a b r s' in
    let q' : w ≡ m.extend b l.figure = subst (λ x. w ≡ m.extend b x.figure) z q in
    p ∙ (ap (λ x. m.extend x l.figure) y ∙ sym q')
