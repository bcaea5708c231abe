-- What a line makes of a dialogue and of a session.
use Rattle.std.proofs.Common.{◌≡◌, ℕ, Bool, true, false, List, [], ◌∷◌, length, Ok, Err, Result, sym, refl, ap, ◌∙◌, subst}
use Rattle.console.specs.declared.command.Command.{Command}
use Rattle.console.specs.declared.command.LineFault.{LineFault}
use Rattle.console.specs.declared.measure.MeasureName.{MeasureName}
use Rattle.console.specs.declared.measure.MeasureName.TheVariants.{Delay, Width}
use Rattle.console.specs.FirstLine.{opening_line}
use Rattle.console.specs.Grammar.{reading}
use Rattle.definitions.specs.Measures.{Scale, delay, width}
use Rattle.definitions.specs.Networks.{Net}
use Rattle.histories.specs.State.{State, Right}
use Rattle.lines.specs.Dialogues.{Turn, Dialogue as Exchange}
use Rattle.networks.specs.declared.network.Network.{Ghosts as NetworkGhosts}
use Rattle.measures.specs.declared.Measure.{Ghosts as MeasureGhosts}
use Rattle.planner.specs.Planners.{state, network_of}
use Rattle.dialogue.specs.declared.dialogue.Dialogue.{Dialogue}
use Rattle.dialogue.specs.declared.fault.Cause.{Cause}
use Rattle.dialogue.specs.declared.session.Session.{Session}
use Rattle.dialogue.specs.declared.session.Session.TheVariants.{ByDelay, ByWidth}
use Rattle.dialogue.specs.Dialogues.{Tried, reply, next_number}
use Rattle.dialogue.specs.Sessions.{Begun, Later, First}
use Rattle.dialogue.specs.Outcomes.{Outcome}

module _ {N : Type 0} {gn : NetworkGhosts N} (meaning : N → Net) where
  pub later : {M : Type 0} {gm : MeasureGhosts M} (m : Scale) (d d' : Dialogue N M gn gm) (line : List ℕ) (result : Result (Command × Outcome) Cause) (buffer filled : List ℕ) → length buffer ≡ 512 → network_of d'.planner ≡ network_of d.planner → d'.lines ≡ next_number d.lines → Tried m (state meaning d.planner) (reading line) result (state meaning d'.planner) buffer filled → Later meaning m d line d' (reply d'.lines result filled)
  later m d d' line result buffer filled room network lines T = record {
    network = network;
    lines = lines;
    answer = record { result = result; buffer = buffer; filled = filled; room = room; tried = T; bytes = refl };
  }

  module _ (x : N) (name : MeasureName) (nodes places : ℕ) (n : nodes ≡ (meaning x).nodes) (p : places ≡ length (meaning x).places) where
    pub first_delay : (d : _) → name ≡ Delay → Begun meaning delay x d → First {gn = gn} meaning (Ok name) x (ByDelay d) (opening_line name nodes places)
    first_delay d e B = subst (λ z. First meaning (Ok z) x (ByDelay d) (opening_line z nodes places)) (sym e)
        (d, refl, B, ap (λ k. opening_line Delay k places) n ∙ ap (opening_line Delay (meaning x).nodes) p)

    pub first_width : (d : _) → name ≡ Width → Begun meaning width x d → First {gn = gn} meaning (Ok name) x (ByWidth d) (opening_line name nodes places)
    first_width d e B = subst (λ z. First meaning (Ok z) x (ByWidth d) (opening_line z nodes places)) (sym e)
        (d, refl, B, ap (λ k. opening_line Width k places) n ∙ ap (opening_line Width (meaning x).nodes) p)
