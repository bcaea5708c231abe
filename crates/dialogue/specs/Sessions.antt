-- A session: the first line chooses the measure, the later lines are answered by the planner.
use Rattle.std.specs.Prelude.{◌≡◌, ℕ, Bool, true, false, List, [], length, Ok, Err, Result}
use Rattle.console.specs.declared.command.LineFault.{LineFault}
use Rattle.console.specs.declared.measure.MeasureName.{MeasureName}
use Rattle.console.specs.declared.measure.MeasureName.TheVariants.{Delay, Width}
use Rattle.console.specs.Answers.{refusal_line}
use Rattle.console.specs.Faults.{line_code}
use Rattle.console.specs.FirstLine.{measure_named, opening_line}
use Rattle.definitions.specs.Measures.{Scale, delay, width}
use Rattle.definitions.specs.Networks.{Net}
use Rattle.histories.specs.Histories.{After}
use Rattle.histories.specs.State.{Opened}
use Rattle.networks.specs.declared.network.Network.{Ghosts as NetworkGhosts}
use Rattle.measures.specs.declared.Measure.{Ghosts as MeasureGhosts}
use Rattle.planner.specs.Planners.{state, network_of}
use Rattle.dialogue.specs.declared.dialogue.Dialogue.{Dialogue}
use Rattle.dialogue.specs.declared.session.Session.{Session}
use Rattle.dialogue.specs.declared.session.Session.TheVariants.{Opening, ByDelay, ByWidth, Ended}
use Rattle.dialogue.specs.Dialogues.{next_number, LineAnswer}

-- Has the session ended?
abbrev pub is_over : {N : Type 0} {gn : NetworkGhosts N} → Session N gn → Bool
is_over (Opening heap x) = false
is_over (ByDelay d) = false
is_over (ByWidth d) = false
is_over Ended = true

module _ {N : Type 0} {gn : NetworkGhosts N} (meaning : N → Net) where
  -- A dialogue just opened over the network x, after one line: its planner is what the empty list of calls leaves.
  pub record Begun {M : Type 0} {gm : MeasureGhosts M} (m : Scale) (x : N) (d : Dialogue N M gn gm) : Type 0 where
    pub network : network_of d.planner ≡ x
    pub opened : Opened (meaning x) (state meaning d.planner)
    pub after : After m (meaning x) [] (state meaning d.planner)
    pub lines : d.lines ≡ 1

  -- One line more of a dialogue.
  pub record Later {M : Type 0} {gm : MeasureGhosts M} (m : Scale) (d : Dialogue N M gn gm) (line : List ℕ) (d' : Dialogue N M gn gm) (said : List ℕ) : Type 0 where
    pub network : network_of d'.planner ≡ network_of d.planner
    pub lines : d'.lines ≡ next_number d.lines
    pub answer : LineAnswer m d'.lines (state meaning d.planner) line (state meaning d'.planner) said

  -- What the first line makes of a session over x.
  abbrev pub First : Result MeasureName LineFault → N → Session N gn → List ℕ → Type 0
  First (Ok Delay) x t said = (d : _) × (t ≡ ByDelay d) × Begun delay x d × (said ≡ opening_line Delay (meaning x).nodes (length (meaning x).places))
  First (Ok Width) x t said = (d : _) × (t ≡ ByWidth d) × Begun width x d × (said ≡ opening_line Width (meaning x).nodes (length (meaning x).places))
  First (Err f) x t said = (t ≡ Ended) × (said ≡ refusal_line 1 (line_code f))

  -- The session s answers the line by these bytes, and is then t.
  abbrev pub Answered : Session N gn → List ℕ → Session N gn → List ℕ → Type 0
  Answered (Opening heap x) line t said = First (measure_named line) x t said
  Answered (ByDelay d) line t said = (d' : _) × (t ≡ ByDelay d') × Later delay d line d' said
  Answered (ByWidth d) line t said = (d' : _) × (t ≡ ByWidth d') × Later width d line d' said
  Answered Ended line t said = (t ≡ Ended) × (said ≡ [])
