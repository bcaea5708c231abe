-- Recovery values, guarantees, held routes and backups exist, with no hypothesis but the limits and the laws.
use Rattle.std.proofs.Common.{ℕ, List, Some, None, Option, sym, ap, ◌∙◌}
use Rattle.definitions.specs.declared.Link.{Link}
use Rattle.definitions.specs.Networks.{Net, Limits, place, risks, at_risk}
use Rattle.definitions.specs.Measures.{Scale, Laws}
use Rattle.definitions.specs.Routes.{Next, Held}
use Rattle.definitions.specs.Plans.{plain, worst, Recovery, Guarantee, Backup}
use Rattle.definitions.specs.Searches.{given, Labels, Nexts}
use Rattle.definitions.proofs.Fixpoint.{label_best, label_none}
use Rattle.definitions.proofs.Layers.{without_limits}
use Rattle.definitions.proofs.Lawfuls.{Value, plain_lawful, worst_lawful}
use Rattle.definitions.proofs.Following.{best_held}
use Rattle.definitions.proofs.Givens.{made, made_via, via_made, Recoveries, recoveries_lawful, worst_labels, worst_nexts}
use Rattle.definitions.proofs.Existence.{labels_exist, nexts_exist, plain_exists}

module _ (m : Scale) (M : Laws m) (net : Net) (N : Limits net) (t : ℕ) where
  pub low : (k : ℕ) → Limits (at_risk k net)
  low k = without_limits (risks net k) net N

  -- the best plain value at the tail of k, in the layer at risk with k
  abbrev tail_value : ℕ → Option Link → Option ℕ
  tail_value k None = None
  tail_value k (Some l) = (plain_exists m M (at_risk k net) (low k) t).0 l.tail

  abbrev recovery : ℕ → Option ℕ
  recovery k = tail_value k (place net.places k)

  recoveries : Recoveries m M net N t recovery
  recoveries = record {
    some = λ k l x h e.
        let (d, s, nx, S, X) = plain_exists m M (at_risk k net) (low k) t in
        label_best (plain m) (at_risk k net) t Value (plain_lawful m M (at_risk k net) (low k)) d S l.tail x (sym (ap (tail_value k) h) ∙ e);
    none = λ k l h e.
        let (d, s, nx, S, X) = plain_exists m M (at_risk k net) (low k) t in
        label_none (plain m) (at_risk k net) t Value (plain_lawful m M (at_risk k net) (low k)) d S l.tail (sym (ap (tail_value k) h) ∙ e);
  }

  pub worst_exists : (d : ℕ → Option ℕ) × (s : ℕ → Option ℕ) × (nx : ℕ → Option ℕ) × Labels (worst m net t) net t d × Nexts (worst m net t) net t s nx
  worst_exists =
      let L = recoveries_lawful m M net N t recovery recoveries in
      let (d, S) = labels_exist (given m recovery) net N t Value L (made m recovery) (made_via m recovery) (via_made m recovery) in
      let (s, nx, X) = nexts_exist (given m recovery) net N t Value L (made m recovery) (made_via m recovery) (via_made m recovery) d S in
      (d, s, nx, worst_labels m M net N t recovery recoveries d S, worst_nexts m M net N t recovery recoveries d s nx S X)

  pub recovery_held : (k : ℕ) (l : Link) (r : ℕ) → Recovery m net t k l r → (ks : List ℕ) × Held (plain m) (at_risk k net) t l.tail ks
  recovery_held k l r R =
      let (d, s, nx, S, X) = plain_exists m M (at_risk k net) (low k) t in
      best_held (plain m) (at_risk k net) t Value (plain_lawful m M (at_risk k net) (low k)) d S s nx X l.tail r R

  pub backups : (u k : ℕ) (l : Link) → Next (worst m net t) net t u k l → (ks : List ℕ) × Backup m net t k ks
  backups u k l K =
      let (r, R, e) = K.tight.exact in
      let (ks, H) = recovery_held k l r R in
      (ks, (l, K.holds, H))

  pub guarantee_held : (u g : ℕ) → Guarantee m net t u g → (ks : List ℕ) × Held (worst m net t) net t u ks
  guarantee_held u g G =
      let (d, s, nx, S, X) = worst_exists in
      best_held (worst m net t) net t Value (worst_lawful m M net N t) d S s nx X u g G
