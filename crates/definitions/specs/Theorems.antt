-- What is proved of the definitions: for every lawful measure and every network within the limits, with no
-- assumption that anything exists.
use Rattle.std.specs.Prelude.{◌≡◌, ℕ, ◌<◌, true, ◌↔◌, List, length, Some, Option, ◌≢◌}
use Rattle.definitions.specs.declared.Link.{Link}
use Rattle.definitions.specs.declared.Failure.{Failure}
use Rattle.definitions.specs.declared.Failure.TheVariants.{Nothing, OneLink, OneGroup}
use Rattle.definitions.specs.Networks.{Net, Holds, Limits, risks, failed}
use Rattle.definitions.specs.Measures.{Scale, Laws}
use Rattle.definitions.specs.Routes.{Valuation, Route, Clear, RouteValue, Best, BestIs, count_tight, Steps, Next, Held}
use Rattle.definitions.specs.Plans.{plain, worst, Recovery, BackedUp, ProtectedRoute, Guarantee, Backup, Traced}
use Rattle.definitions.specs.Searches.{Labels, Nexts}

-- The two ways in which a plan values routes.
pub data Values : Type 0 where
  plain_values worst_values : Values

abbrev pub valued : Values → Scale → Net → ℕ → Valuation
valued plain_values m net t = plain m
valued worst_values m net t = worst m net t

-- What a search for values ends with is the answer at every node: the best value, and nothing exactly
-- where no route has a value.
abbrev pub LabelsAreBest : Type 0
LabelsAreBest =
    (m : Scale) → Laws m → (net : Net) → Limits net → (t : ℕ) (x : Values) (d : ℕ → Option ℕ) →
    Labels (valued x m net t) net t d → (u : ℕ) → BestIs (valued x m net t) net t u (d u)

-- What the steps s and the next links nx say of the node u, where d has the best values.
pub record RightAt (ρ : Valuation) (net : Net) (t : ℕ) (d s nx : ℕ → Option ℕ) (u : ℕ) : Type 0 where
  -- the steps of u, and nothing exactly where no tight links lead to t
  pub steps : BestIs (count_tight ρ net t) net t u (s u)
  -- u has steps exactly where it has a value
  pub both : ((n : ℕ) × (s u ≡ Some n)) ↔ ((a : ℕ) × (d u ≡ Some a))
  -- with steps, and elsewhere than at t, u has a next link, which nx names
  pub next : (n : ℕ) → s u ≡ Some n → (u ≢ t) → (k : ℕ) × (l : Link) × (nx u ≡ Some k) × Next ρ net t u k l
  -- and there is no next link but those
  pub only : (k : ℕ) (l : Link) → Next ρ net t u k l → (n : ℕ) × (s u ≡ Some n) × (u ≢ t) × (nx u ≡ Some k)

-- What a search for steps ends with, after one for values, is right at every node.
abbrev pub NextsAreRight : Type 0
NextsAreRight =
    (m : Scale) → Laws m → (net : Net) → Limits net → (t : ℕ) (x : Values) (d s nx : ℕ → Option ℕ) →
    Labels (valued x m net t) net t d → Nexts (valued x m net t) net t s nx → (u : ℕ) → RightAt (valued x m net t) net t d s nx u

-- A node has a best plain value exactly where it has a route.
abbrev pub BestValueExists : Type 0
BestValueExists =
    (m : Scale) → Laws m → (net : Net) → Limits net → (t u : ℕ) →
    ∥ ((ks : List ℕ) × Route net t u ks) ∥₁ ↔ ((w : ℕ) × Best (plain m) net t u w)

-- A link has a recovery value exactly where it is backed up.
abbrev pub RecoveryExists : Type 0
RecoveryExists =
    (m : Scale) → Laws m → (net : Net) → Limits net → (t k : ℕ) (l : Link) →
    BackedUp net t k l ↔ ((r : ℕ) × Recovery m net t k l r)

-- A node has a guarantee exactly where it has a route whose links are all backed up.
abbrev pub GuaranteeExists : Type 0
GuaranteeExists =
    (m : Scale) → Laws m → (net : Net) → Limits net → (t u : ℕ) →
    ∥ ((ks : List ℕ) × ProtectedRoute net t u ks) ∥₁ ↔ ((g : ℕ) × Guarantee m net t u g)

-- The one held route of the node u with the guarantee g: as many links as u has steps, fewer than there
-- are nodes, and g for its worst value.
pub record OneHeld (m : Scale) (net : Net) (t u g : ℕ) : Type 0 where
  pub places : List ℕ
  pub held : Held (worst m net t) net t u places
  pub only : (js : List ℕ) → Held (worst m net t) net t u js → js ≡ places
  pub steps : Steps (worst m net t) net t u (length places)
  pub short : length places < net.nodes
  pub value : RouteValue (worst m net t) net t u places g

-- Every node with a guarantee has steps and one held route.
abbrev pub HeldRouteExists : Type 0
HeldRouteExists =
    (m : Scale) → Laws m → (net : Net) → Limits net → (t u g : ℕ) → u < net.nodes → Guarantee m net t u g → OneHeld m net t u g

-- The one backup of the link l at place k: a route from its tail to t that avoids all that is at risk with
-- k, and has r(k) for its plain value.
pub record OneBackup (m : Scale) (net : Net) (t k : ℕ) (l : Link) : Type 0 where
  pub places : List ℕ
  pub backup : Backup m net t k places
  pub only : (js : List ℕ) → Backup m net t k js → js ≡ places
  pub route : Route net t l.tail places
  pub avoids : Clear (risks net k) places
  pub value : ℕ
  pub valued : RouteValue (plain m) net t l.tail places value
  pub recovery : Recovery m net t k l value

-- Every link that is backed up has one backup.
abbrev pub BackupExists : Type 0
BackupExists =
    (m : Scale) → Laws m → (net : Net) → Limits net → (t k : ℕ) (l : Link) → Holds net k l → BackedUp net t k l → OneBackup m net t k l

-- The one trace from the node u after the failure f: a route to t over links that are there and have not
-- failed, with a plain value no worse than the guarantee g.
pub record OneTrace (m : Scale) (net : Net) (t u g : ℕ) (f : Failure) : Type 0 where
  pub places : List ℕ
  pub traced : Traced m net t (failed net f) u places
  pub only : (js : List ℕ) → Traced m net t (failed net f) u js → js ≡ places
  pub route : Route net t u places
  pub unfailed : Clear (failed net f) places
  pub value : ℕ
  pub valued : RouteValue (plain m) net t u places value
  pub kept : m.no_worse value g ≡ true

-- The failure is of nothing, or of one link alone.
abbrev pub AtMostOne : Failure → Type 0
AtMostOne Nothing = Unit {0}
AtMostOne (OneLink k) = Unit {0}
AtMostOne (OneGroup b) = ⊥

-- From a node with a guarantee there is one trace for each failure, and it keeps the guarantee; for some
-- failure of nothing or of one link its plain value is the guarantee.
abbrev pub TraceIsGuaranteed : Type 0
TraceIsGuaranteed =
    (m : Scale) → Laws m → (net : Net) → Limits net → (t u g : ℕ) → Guarantee m net t u g →
    ((f : Failure) → OneTrace m net t u g f) ×
    ((f : Failure) × (js : List ℕ) × AtMostOne f × Traced m net t (failed net f) u js × RouteValue (plain m) net t u js g)
