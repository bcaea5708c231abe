-- What the records say of each node.
use Rattle.std.specs.Prelude.{◌≡◌, ℕ, List, map, get_or, None, Option}
use Rattle.frontier.specs.declared.record.NodeRecord.{NodeRecord}

-- a node that no search has reached
abbrev pub blank : NodeRecord
blank = record { value = None; steps = None; next = None }

abbrev pub value_of : List NodeRecord → ℕ → Option ℕ
value_of rs u = (get_or rs u blank).value

abbrev pub steps_of : List NodeRecord → ℕ → Option ℕ
steps_of rs u = (get_or rs u blank).steps

abbrev pub next_of : List NodeRecord → ℕ → Option ℕ
next_of rs u = (get_or rs u blank).next

-- The same as lists, with an item for each record.
abbrev pub values_in : List NodeRecord → List (Option ℕ)
values_in rs = map (λ r. r.value) rs

abbrev pub steps_in : List NodeRecord → List (Option ℕ)
steps_in rs = map (λ r. r.steps) rs

abbrev pub nexts_in : List NodeRecord → List (Option ℕ)
nexts_in rs = map (λ r. r.next) rs

-- No node has steps or a next link.
abbrev pub Unreached : List NodeRecord → Type 0
Unreached rs = (u : ℕ) → (steps_of rs u ≡ None) × (next_of rs u ≡ None)
