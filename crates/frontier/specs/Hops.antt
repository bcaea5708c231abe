-- What a link offers to the search for steps and next links.
use Rattle.std.specs.Prelude.{◌≡◌, ℕ, suc, Some, None, Option}
use Rattle.definitions.specs.declared.Link.{Link}
use Rattle.definitions.specs.Networks.{Net, Holds}
use Rattle.definitions.specs.Routes.{Valuation}
use Rattle.frontier.specs.declared.entries.Settled.{Settled}
use Rattle.frontier.specs.declared.entries.Hop.{Hop}

-- The link is tight by the labels: of the label at its head it makes the label at its tail.
abbrev pub LabelTight : Valuation → (ℕ → Option ℕ) → ℕ → Link → Type 0
LabelTight ρ d k l = (b : ℕ) × (a : ℕ) × (d l.head ≡ Some b) × (d l.tail ≡ Some a) × ρ.via k l b a

-- What place k offers once `from` has its steps: its link, if it is tight, leads to that node and starts
-- at a node without steps.
abbrev pub HopOffered : Valuation → Net → (ℕ → Option ℕ) → (ℕ → Option ℕ) → Settled → ℕ → Option Hop → Type 0
HopOffered ρ net d s from k None = (l : Link) → Holds net k l → l.head ≡ from.node → s l.tail ≡ None → LabelTight ρ d k l → ⊥
HopOffered ρ net d s from k (Some h) =
    (l : Link) × Holds net k l × (l.head ≡ from.node) × (s l.tail ≡ None) × (h.steps ≡ suc from.steps) × (h.link ≡ k) × LabelTight ρ d k l

-- Neither t nor a node without steps has a next link.
abbrev pub NoNext : ℕ → (ℕ → Option ℕ) → (ℕ → Option ℕ) → Type 0
NoNext t s nx = (nx t ≡ None) × ((u : ℕ) → s u ≡ None → nx u ≡ None)
