-- Plain and worst values, guarantees, backups and traces, to a destination t.
use Rattle.std.specs.Prelude.{◌≡◌, ℕ, suc, Bool, true, false, List, [], ◌∷◌}
use Rattle.definitions.specs.declared.Link.{Link}
use Rattle.definitions.specs.Networks.{Net, Holds, risks, at_risk}
use Rattle.definitions.specs.Measures.{Scale, worse}
use Rattle.definitions.specs.Routes.{Valuation, Route, Clear, Best, Next, Held}

-- Plain values: each link extends the value of the rest by its figure.
abbrev pub plain : Scale → Valuation
plain m = record { start = m.start; via = λ k l v w. w ≡ m.extend v l.figure; no_worse = m.no_worse }

-- r is the recovery value r(k) of the link l at place k: the best plain value of a route from its tail to t
-- in the layer "at risk with k".
abbrev pub Recovery : Scale → Net → ℕ → ℕ → Link → ℕ → Type 0
Recovery m net t k l r = Best (plain m) (at_risk k net) t l.tail r

-- The link l at place k is backed up: some route from its tail to t avoids all that is at risk with k.
abbrev pub BackedUp : Net → ℕ → ℕ → Link → Type 0
BackedUp net t k l = ∥ ((ks : List ℕ) × Route net t l.tail ks × Clear (risks net k) ks) ∥₁

-- The places are a route from u to t, and each of its links is backed up.
abbrev pub ProtectedRoute : Net → ℕ → ℕ → List ℕ → Type 0
ProtectedRoute net t u [] = u ≡ t
ProtectedRoute net t u (k ∷ ks) =
    (l : Link) × Holds net k l × (l.tail ≡ u) × BackedUp net t k l × ProtectedRoute net t l.head ks

-- Worst values: each link, which must be backed up, makes the worse of r(k) and the extended value.
abbrev pub worst : Scale → Net → ℕ → Valuation
worst m net t = record {
  start = m.start;
  via = λ k l v w. (r : ℕ) × Recovery m net t k l r × (w ≡ worse m r (m.extend v l.figure));
  no_worse = m.no_worse;
}

-- A node's guarantee: the best worst value among its routes.
abbrev pub Guarantee : Scale → Net → ℕ → ℕ → ℕ → Type 0
Guarantee m net t u g = Best (worst m net t) net t u g

-- The backup of the link at k: the held route of its tail, by plain values, in the layer "at risk with k".
abbrev pub Backup : Scale → Net → ℕ → ℕ → List ℕ → Type 0
Backup m net t k ks = (l : Link) × Holds net k l × Held (plain m) (at_risk k net) t l.tail ks

-- The trace from a node: along next links, and from the first that has failed along its backup.
pub data Traced (m : Scale) (net : Net) (t : ℕ) (fails : ℕ → Bool) : ℕ → List ℕ → Type 0 where
  arrived : {u : ℕ} → u ≡ t → Traced m net t fails u []
  onward : {u k : ℕ} {l : Link} {ks : List ℕ} → Next (worst m net t) net t u k l → fails k ≡ false →
      Traced m net t fails l.head ks → Traced m net t fails u (k ∷ ks)
  turned : {u k : ℕ} {l : Link} {ks : List ℕ} → Next (worst m net t) net t u k l → fails k ≡ true →
      Backup m net t k ks → Traced m net t fails u ks

-- Of the nodes below n, c have what P says.
pub data Counted (P : ℕ → Type 0) : ℕ → ℕ → Type 0 where
  none : Counted P 0 0
  one : {n c : ℕ} → P n → Counted P n c → Counted P (suc n) (suc c)
  skip : {n c : ℕ} → (P n → ⊥) → Counted P n c → Counted P (suc n) c

-- What plan answers: how many nodes have a guarantee.
abbrev pub Planned : Scale → Net → ℕ → ℕ → Type 0
Planned m net t c = Counted (λ u. ∥ ((g : ℕ) × Guarantee m net t u g) ∥₁) net.nodes c
