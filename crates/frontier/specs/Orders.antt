-- The two orders of heap entries: candidates by value, then by node; links by steps, then by number.
use Rattle.std.specs.Prelude.{◌≡◌, ◌^◌, ◌<◌, ◌≤◌, true}
use Rattle.definitions.specs.Measures.{Scale}
use Rattle.frontier.specs.declared.entries.Candidate.{Candidate}
use Rattle.frontier.specs.declared.entries.Hop.{Hop}

-- The value has 64 bits.
abbrev pub ValueFits : Candidate → Type 0
ValueFits a = a.value < 2 ^ 64

-- The first candidate goes no later: its value is no worse and, where the values are equal, its node no higher.
pub record ValueBefore (m : Scale) (a b : Candidate) : Type 0 where
  pub first : ValueFits a
  pub second : ValueFits b
  pub by_value : m.no_worse a.value b.value ≡ true
  pub tie : a.value ≡ b.value → a.node ≤ b.node

-- The first hop goes no later: it has no more steps and, where the steps are equal, its link is no higher.
abbrev pub StepsBefore : Hop → Hop → Type 0
StepsBefore a b = (a.steps ≤ b.steps) × (a.steps ≡ b.steps → a.link ≤ b.link)
