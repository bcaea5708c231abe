-- The records lead along held routes, and to backups.
use Rattle.std.proofs.Common.{◌≡◌, ℕ, zero, suc, ◌<◌, List, [], ◌∷◌, length, Some, sym, ap, ◌∙◌, subst, arith}
use native.Mathlib.Decide.{ℕ_discrete}
use Rattle.definitions.specs.declared.Link.{Link}
use Rattle.definitions.specs.Networks.{Net, Limits, risks, at_risk}
use Rattle.definitions.specs.Measures.{Scale, Laws}
use Rattle.definitions.specs.Routes.{Valuation, Next, Held}
use Rattle.definitions.specs.Plans.{plain, worst, Backup}
use Rattle.definitions.proofs.Fixpoint.{Lawful, best_label}
use Rattle.definitions.proofs.Following.{next_label, value_steps}
use Rattle.definitions.proofs.Layers.{without_limits}
use Rattle.definitions.proofs.Lawfuls.{Value, plain_lawful, worst_lawful}
use Rattle.frontier.specs.declared.record.NodeRecord.{NodeRecord}
use Rattle.std.specs.Prelude.{Ok, Err, Result}
use Rattle.routes.specs.declared.fault.SearchFault.{SearchFault}
use Rattle.routes.specs.declared.fault.SearchFault.TheVariants.{RecordCount, NoDestination}
use Rattle.routes.specs.Records.{Recorded, SearchAnswer, Leads, value_of, steps_of, next_of}

pub some_one : {A : Type 0} (x y : A) → Some x ≡ Some y → x ≡ y
some_one x y e = cc

-- The records lead along the held route.
module _ (ρ : Valuation) (net : Net) (t : ℕ) (Fit : ℕ → Type 0) (L : Lawful ρ net Fit) (rs : List NodeRecord) (D : Recorded ρ net t rs) where
  pub followed : (n u : ℕ) → steps_of rs u ≡ Some n → (ks : List ℕ) × Held ρ net t u ks × Leads net (next_of rs) t u ks × (length ks ≡ n)
  followed n u e = go n u e (ℕ_discrete u t)
    where
      go : (n u : ℕ) → steps_of rs u ≡ Some n → Dec (u ≡ t) → (ks : List ℕ) × Held ρ net t u ks × Leads net (next_of rs) t u ks × (length ks ≡ n)
      go n u e (yes p) = ([], p, p, (let z : steps_of rs u ≡ Some 0 = ap (steps_of rs) p ∙ D.links.none_at_t in some_one 0 n (sym z ∙ e)))
      go zero u e (no q) = let (k, l, c, _, h, f, T, g, z) = D.links.taken u 0 e q in absurd (omega arith)
      go (suc n) u e (no q) =
          let (k, l, x, K, g) = next_label ρ net t Fit L (value_of rs) D.labels (steps_of rs) (next_of rs) D.links u (suc n) e q in
          let (ks, H, P, z) = go n l.head g (ℕ_discrete l.head t) in
          (k ∷ ks, (l, K, H), (l, x, K.holds, P), ap suc z)

  -- a node with a value has steps, and its way along the records
  pub way : (u a : ℕ) → value_of rs u ≡ Some a → (ks : List ℕ) × Held ρ net t u ks × Leads net (next_of rs) t u ks × (steps_of rs u ≡ Some (length ks))
  way u a e =
      let (n, q) = value_steps ρ net t Fit L (value_of rs) D.labels (steps_of rs) (next_of rs) D.links u a e in
      let (ks, H, P, z) = followed n u q in
      (ks, H, P, q ∙ ap Some (sym z))

  -- and, elsewhere than at t, a next link
  pub onwards : (u a : ℕ) → value_of rs u ≡ Some a → (u ≡ t → ⊥) → (k : ℕ) × (l : Link) × (next_of rs u ≡ Some k) × Next ρ net t u k l
  onwards u a e ne =
      let (n, q) = value_steps ρ net t Fit L (value_of rs) D.labels (steps_of rs) (next_of rs) D.links u a e in
      let (k, l, x, K, g) = next_label ρ net t Fit L (value_of rs) D.labels (steps_of rs) (next_of rs) D.links u n q ne in
      (k, l, x, K)

module _ (m : Scale) (M : Laws m) (net : Net) (N : Limits net) (t : ℕ) (rs : List NodeRecord) (D : Recorded (worst m net t) net t rs) where
  -- the backup of the next link x of u, by the records of the layer at risk with it
  pub detour : (u g x : ℕ) (layer : List NodeRecord) → (u ≡ t → ⊥) → value_of rs u ≡ Some g → next_of rs u ≡ Some x → Recorded (plain m) (at_risk x net) t layer →
      (l : Link) × (ks : List ℕ) × Next (worst m net t) net t u x l × Backup m net t x ks × Leads (at_risk x net) (next_of layer) t u ks × (steps_of layer u ≡ Some (length ks))
  detour u g x layer ne lab nx E =
      let (k, l, n, K') = onwards (worst m net t) net t Value (worst_lawful m M net N t) rs D u g lab ne in
      let K : Next (worst m net t) net t u x l = subst (λ y. Next (worst m net t) net t u y l) (some_one k x (sym n ∙ nx)) K' in
      let L = plain_lawful m M (at_risk x net) (without_limits (risks net x) net N) in
      let (r, R, e) = K.tight.exact in
      let lab' : value_of layer u ≡ Some r = subst (λ y. value_of layer y ≡ Some r) K.starts (best_label (plain m) (at_risk x net) t Value L (value_of layer) E.labels l.tail r R) in
      let (ks, H, P, s) = way (plain m) (at_risk x net) t Value L layer E u r lab' in
      (l, ks, K, (l, K.holds, subst (λ y. Held (plain m) (at_risk x net) t y ks) (sym K.starts) H), P, s)

-- a search with a destination that is a node leaves its records
pub searched : (ρ : Valuation) (net : Net) (t : ℕ) (rs rs' : List NodeRecord) (r : Result Unit SearchFault) → t < net.nodes → length rs ≡ 256 → SearchAnswer ρ net t rs r rs' → Recorded ρ net t rs'
searched ρ net t rs rs' (Ok _) lt all A = A.found.2
searched ρ net t rs rs' (Err RecordCount) lt all A = absurd (A.count (λ i. Err RecordCount) all)
searched ρ net t rs rs' (Err NoDestination) lt all A = let z = (A.destination (λ i. Err NoDestination)).1 in absurd (omega arith)
