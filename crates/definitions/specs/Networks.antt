-- What a network means, and the two layers.
use Rattle.std.specs.Prelude.{◌≡◌, ℕ, suc, ◌/◌, ◌%◌, ◌^◌, ◌<◌, ◌≤◌, Bool, false, cond, not, ◌||◌, List, [], ◌∷◌, map, length, get_or, Some, None, Option, ◌==◌, ◌≢◌, bit_and, slice_index_or}
use Rattle.definitions.specs.declared.Link.{Link}
use Rattle.definitions.specs.declared.Failure.{Failure}
use Rattle.definitions.specs.declared.Failure.TheVariants.{Nothing, OneLink, OneGroup}

-- A network: how many nodes, and what its places hold.
pub record Net : Type 0 where
  pub nodes : ℕ
  pub places : List (Option Link)

-- What place k holds; nothing beyond the last place.
abbrev pub place : {X : Type 0} → List (Option X) → ℕ → Option X
place ps k = slice_index_or ps k None

-- Place k holds the link l.
abbrev pub Holds : Net → ℕ → Link → Type 0
Holds net k l = place net.places k ≡ Some l

-- A link between two different nodes, of so many, whose figure and groups have 32 bits.
abbrev pub Sound : ℕ → Link → Type 0
Sound nodes l = (l.tail < nodes) × (l.head < nodes) × (l.tail ≢ l.head) × (l.figure < 2 ^ 32) × (l.groups < 2 ^ 32)

-- Every place that holds a link holds a sound one.
abbrev pub AllSound : Net → Type 0
AllSound net = (k : ℕ) (l : Link) → Holds net k l → Sound net.nodes l

-- The limits of a network.
pub record Limits (net : Net) : Type 0 where
  pub few_nodes : net.nodes ≤ 256
  pub few_places : length net.places ≤ 1024
  pub sound : AllSound net

-- The network of a list of links: every place is filled.
abbrev pub listed : ℕ → List Link → Net
listed nodes links = record { nodes = nodes; places = map Some links }

-- The places of which `gone` says true are empty; the others stay.
abbrev pub emptied : (ℕ → Bool) → List (Option Link) → List (Option Link)
emptied gone [] = []
emptied gone (p ∷ ps) = cond (gone 0) None p ∷ emptied (λ k. gone (suc k)) ps

-- The network without the places of which `gone` says true.
abbrev pub without : (ℕ → Bool) → Net → Net
without gone net = record { nodes = net.nodes; places = emptied gone net.places }

-- The layer "withdrawn": a network in which the marked places are empty.
abbrev pub withdrawn : List Bool → Net → Net
withdrawn marks net = without (λ k. get_or marks k false) net

-- Two places hold links with a common risk group.
abbrev pub share_group : Option Link → Option Link → Bool
share_group None q = false
share_group (Some a) None = false
share_group (Some a) (Some b) = not (bit_and a.groups b.groups == 0)

-- Place j is at risk with place k: it is k itself, or their links have a common risk group.
abbrev pub risks : Net → ℕ → ℕ → Bool
risks net k j = j == k || share_group (place net.places j) (place net.places k)

-- The layer "at risk with k": a network in which all that is at risk with k is empty.
abbrev pub at_risk : ℕ → Net → Net
at_risk k net = without (risks net k) net

-- The place holds a link that belongs to risk group b.
abbrev pub in_group : ℕ → Option Link → Bool
in_group b None = false
in_group b (Some l) = l.groups / 2 ^ b % 2 == 1

-- Place j has failed: nothing, the one link, or each link of the one group.
abbrev pub failed : Net → Failure → ℕ → Bool
failed net Nothing j = false
failed net (OneLink k) j = j == k
failed net (OneGroup b) j = in_group b (place net.places j)
