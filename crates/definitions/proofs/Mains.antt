-- The theorems that the contracts name.
use Rattle.std.proofs.Common.{◌≡◌, ℕ, suc, List, [], ◌∷◌, length, Some, None, Option, sym, refl, ap, ◌∙◌}
use mathlib.Core.HLevel.{⊥_prop}
use mathlib.Core.Logic.{∥∥₁_elim, ∥∥₁_map}
use native.Mathlib.Decide.{ℕ_discrete}
use Rattle.definitions.specs.declared.Failure.{Failure}
use Rattle.definitions.specs.declared.Failure.TheVariants.{Nothing, OneLink, OneGroup}
use Rattle.definitions.specs.Networks.{Net, Limits, risks, at_risk, failed}
use Rattle.definitions.specs.Measures.{Scale, Laws, worse}
use Rattle.definitions.specs.Routes.{Valuation, Route, RouteValue, Best, count_tight, Held}
use Rattle.definitions.specs.Plans.{plain, worst, ProtectedRoute}
use Rattle.definitions.specs.Searches.{Labels, Nexts}
use Rattle.definitions.specs.Theorems.{plain_values, worst_values, LabelsAreBest, RightAt, NextsAreRight, BestValueExists, RecoveryExists, GuaranteeExists, HeldRouteExists, BackupExists, OneTrace, AtMostOne, TraceIsGuaranteed}
use Rattle.definitions.proofs.Fixpoint.{Lawful, label_best, label_none}
use Rattle.definitions.proofs.Layers.{below, layer_route, route_layer}
use Rattle.definitions.proofs.Lawfuls.{Value, Any, plain_lawful, worst_lawful, count_lawful}
use Rattle.definitions.proofs.Following.{value_route, next_one, next_away, held_one, steps_held, held_value, labels_tight, count_labels, label_steps, next_label, value_steps}
use Rattle.definitions.proofs.Props.{labels_answer}
use Rattle.definitions.proofs.Short.{held_short}
use Rattle.definitions.proofs.Tracing.{held_route, value_over, traced_route, traced_value, traced_from, traced_tight, traced_one, backup_one, Near}
use Rattle.definitions.proofs.Existence.{plain_exists}
use Rattle.definitions.proofs.Always.{low, worst_exists, recovery_held, backups, guarantee_held}

-- Labels and next links, under any lawful valuation.
module _ (ρ : Valuation) (net : Net) (t : ℕ) (Fit : ℕ → Type 0) (L : Lawful ρ net Fit) (d : ℕ → Option ℕ) (S : Labels ρ net t d) where
  -- a node with a route that has a value has a best value
  best_exists : (u : ℕ) → ∥ ((ks : List ℕ) × (w : ℕ) × RouteValue ρ net t u ks w) ∥₁ → (w : ℕ) × Best ρ net t u w
  best_exists u some = go (d u) refl
    where
      go : (o : Option ℕ) → d u ≡ o → (w : ℕ) × Best ρ net t u w
      go (Some w) e = (w, label_best ρ net t Fit L d S u w e)
      go None e = absurd (∥∥₁_elim some ⊥_prop (λ (ks, w, W). label_none ρ net t Fit L d S u e ks w W))

  module _ (s nx : ℕ → Option ℕ) (X : Nexts ρ net t s nx) where
    steps_value : (u n : ℕ) → s u ≡ Some n → (a : ℕ) × (d u ≡ Some a)
    steps_value u n e = go (ℕ_discrete u t)
      where
        go : Dec (u ≡ t) → (a : ℕ) × (d u ≡ Some a)
        go (yes p) = (ρ.start, ap d p ∙ S.at_t)
        go (no q) =
            let (k, l, c, _, h, f, T, g, z) = X.taken u n e q in
            let (b, a, hb, ha, m) = labels_tight ρ net t Fit L d S k l T in
            (a, ap d (sym f) ∙ ha)

    right_at : (u : ℕ) → RightAt ρ net t d s nx u
    right_at u = record {
      steps = labels_answer (count_tight ρ net t) net t Any (count_lawful ρ net t) s ∣ count_labels ρ net t Fit L d S s nx X ∣₁ u;
      both = (λ (n, e). steps_value u n e, λ (a, e). value_steps ρ net t Fit L d S s nx X u a e);
      next = λ n e away. let (k, l, q, K, _) = next_label ρ net t Fit L d S s nx X u n e away in (k, l, q, K);
      only = λ k l K.
          let e = label_steps ρ net t Fit L d S s nx X u (suc K.left) K.steps in
          let away = next_away ρ net t u k l K in
          let (j, i, q, J, _) = next_label ρ net t Fit L d S s nx X u (suc K.left) e away in
          (suc K.left, e, away, q ∙ ap Some (next_one ρ net t u j k i l J K));
    }

pub labels_are_best : LabelsAreBest
labels_are_best m M net N t plain_values d S u = labels_answer (plain m) net t Value (plain_lawful m M net N) d ∣ S ∣₁ u
labels_are_best m M net N t worst_values d S u = labels_answer (worst m net t) net t Value (worst_lawful m M net N t) d ∣ S ∣₁ u

pub nexts_are_right : NextsAreRight
nexts_are_right m M net N t plain_values d s nx S X u = right_at (plain m) net t Value (plain_lawful m M net N) d S s nx X u
nexts_are_right m M net N t worst_values d s nx S X u = right_at (worst m net t) net t Value (worst_lawful m M net N t) d S s nx X u

-- Each route has a plain value.
route_value : (m : Scale) (net : Net) (t u : ℕ) (ks : List ℕ) → Route net t u ks → (w : ℕ) × RouteValue (plain m) net t u ks w
route_value m net t u [] p = (m.start, (p, refl))
route_value m net t u (k ∷ ks) (l, h, e, r) = let (v, V) = route_value m net t l.head ks r in (m.extend v l.figure, (l, v, h, e, V, refl))

pub best_value_exists : BestValueExists
best_value_exists m M net N t u = (
  λ some.
      let (d, s, nx, S, X) = plain_exists m M net N t in
      best_exists (plain m) net t Value (plain_lawful m M net N) d S u (∥∥₁_map some (λ (ks, r). let (w, W) = route_value m net t u ks r in (ks, w, W))),
  λ (w, B). ∥∥₁_map B.reached (λ (ks, W). (ks, value_route (plain m) net t u ks w W)),
)

pub recovery_exists : RecoveryExists
recovery_exists m M net N t k l = (
  λ some. (best_value_exists m M (at_risk k net) (low m M net N t k) t l.tail).0 (∥∥₁_map some (λ (ks, r, c). (ks, route_layer (risks net k) net t l.tail ks r c))),
  λ (r, R). ∥∥₁_map R.reached (λ (ks, W).
      let (q, c) = layer_route (risks net k) net t l.tail ks (value_route (plain m) (at_risk k net) t l.tail ks r W) in
      (ks, q, c)),
)

module _ (m : Scale) (M : Laws m) (net : Net) (N : Limits net) (t : ℕ) where
  -- A route has a worst value exactly where all its links are backed up.
  pub protected_value : (u : ℕ) (ks : List ℕ) → ProtectedRoute net t u ks → (w : ℕ) × RouteValue (worst m net t) net t u ks w
  protected_value u [] p = (m.start, (p, refl))
  protected_value u (k ∷ ks) (l, h, e, b, r) =
      let (v, V) = protected_value l.head ks r in
      let (x, R) = (recovery_exists m M net N t k l).0 b in
      (worse m x (m.extend v l.figure), (l, v, h, e, V, (x, R, refl)))

  pub value_protected : (u : ℕ) (ks : List ℕ) (w : ℕ) → RouteValue (worst m net t) net t u ks w → ProtectedRoute net t u ks
  value_protected u [] w (p, q) = p
  value_protected u (k ∷ ks) w (l, v, h, e, V, (r, R, q)) =
      (l, h, e, (recovery_exists m M net N t k l).1 (r, R), value_protected l.head ks v V)

pub guarantee_exists : GuaranteeExists
guarantee_exists m M net N t u = (
  λ some.
      let (d, s, nx, S, X) = worst_exists m M net N t in
      best_exists (worst m net t) net t Value (worst_lawful m M net N t) d S u
      (∥∥₁_map some (λ (ks, r). let (w, W) = protected_value m M net N t u ks r in (ks, w, W))),
  λ (g, G). ∥∥₁_map G.reached (λ (ks, W). (ks, value_protected m M net N t u ks g W)),
)

pub held_route_exists : HeldRouteExists
held_route_exists m M net N t u g low_node G =
    let (ks, H) = guarantee_held m M net N t u g G in
    record {
      places = ks;
      held = H;
      only = λ js J. held_one (worst m net t) net t u js ks J H;
      steps = steps_held (worst m net t) net t u ks H;
      short = held_short (worst m net t) net N t u ks H low_node;
      value = held_value (worst m net t) net t Value (worst_lawful m M net N t) u ks g G H;
    }

pub backup_exists : BackupExists
backup_exists m M net N t k l h b =
    let (r, R) = (recovery_exists m M net N t k l).0 b in
    let (ks, H) = recovery_held m M net N t k l r R in
    let (q, c) = layer_route (risks net k) net t l.tail ks (held_route (plain m) (at_risk k net) t l.tail ks H) in
    let W = held_value (plain m) (at_risk k net) t Value (plain_lawful m M (at_risk k net) (low m M net N t k)) l.tail ks r R H in
    record {
      places = ks;
      backup = (l, h, H);
      only = λ js J. backup_one m net t k js ks J (l, h, H);
      route = q;
      avoids = c;
      value = r;
      valued = value_over (plain m) (at_risk k net) net (λ j o hj. (below (risks net k) net j o hj).0) t l.tail ks r W;
      recovery = R;
    }

near_one : (m : Scale) (M : Laws m) (net : Net) (N : Limits net) (t n : ℕ) (f : Failure) → Near m M net N t n f → AtMostOne f
near_one m M net N t n Nothing p = tt
near_one m M net N t n (OneLink k) p = tt
near_one m M net N t n (OneGroup b) p = p

pub trace_is_guaranteed : TraceIsGuaranteed
trace_is_guaranteed m M net N t u g G =
    let (hs, H) = guarantee_held m M net N t u g G in
    let (f, js, near, T, W) = traced_tight m M net N t (backups m M net N t) u g hs G H in
    (one hs H, (f, js, near_one m M net N t (length hs) f near, T, W))
  where
    one : (hs : List ℕ) → Held (worst m net t) net t u hs → (f : Failure) → OneTrace m net t u g f
    one hs H f =
        let (ks, T) = traced_from m M net N t (backups m M net N t) (failed net f) u hs H in
        let (w, W, le) = traced_value m M net N t (failed net f) u g ks G T in
        let (q, c) = layer_route (failed net f) net t u ks (traced_route m M net N t f u ks T) in
        record {
          places = ks;
          traced = T;
          only = λ js J. traced_one m net t (failed net f) u js ks J T;
          route = q;
          unfailed = c;
          value = w;
          valued = W;
          kept = le;
        }
