-- The first 65 bytes of a line decide what a session answers.
use Rattle.std.specs.Prelude.{◌≡◌, ℕ, List, [], ◌∷◌, take, refl}
use Rattle.std.proofs.Common.{subst}
use Rattle.console.proofs.Reading.{first_bytes}
use Rattle.console.specs.FirstLine.{measure_named}
use Rattle.definitions.specs.Measures.{Scale}
use Rattle.definitions.specs.Networks.{Net}
use Rattle.networks.specs.declared.network.Network.{Ghosts as NetworkGhosts}
use Rattle.measures.specs.declared.Measure.{Ghosts as MeasureGhosts}
use Rattle.planner.specs.Planners.{state}
use Rattle.dialogue.specs.declared.dialogue.Dialogue.{Dialogue}
use Rattle.dialogue.specs.declared.session.Session.{Session}
use Rattle.dialogue.specs.declared.session.Session.TheVariants.{Opening, ByDelay, ByWidth, Ended}
use Rattle.dialogue.specs.Dialogues.{Tried}
use Rattle.dialogue.specs.Sessions.{First, Later, Answered}

measure_short : (line : List ℕ) → measure_named (take 65 line) ≡ measure_named line
measure_short [] = refl
measure_short (b ∷ []) = refl
measure_short (b ∷ c ∷ bs) = refl

module _ {N : Type 0} {gn : NetworkGhosts N} (meaning : N → Net) where
  later_short : {M : Type 0} {gm : MeasureGhosts M} (m : Scale) (d d' : Dialogue N M gn gm) (line said : List ℕ) → Later meaning m d (take 65 line) d' said → Later meaning m d line d' said
  later_short m d d' line said L =
      let A = L.answer in
      record {
        network = L.network;
        lines = L.lines;
        answer = record {
          result = A.result;
          buffer = A.buffer;
          filled = A.filled;
          room = A.room;
          tried = subst (λ r. Tried m (state meaning d.planner) r A.result (state meaning d'.planner) A.buffer A.filled) (first_bytes line) A.tried;
          bytes = A.bytes;
        };
      }

  pub answered_short : (s t : Session N gn) (line said : List ℕ) → Answered meaning s (take 65 line) t said → Answered meaning s line t said
  answered_short (Opening heap x) t line said h = subst (λ r. First meaning r x t said) (measure_short line) h
  answered_short (ByDelay d) t line said (d', e, L) = (d', e, later_short _ d d' line said L)
  answered_short (ByWidth d) t line said (d', e, L) = (d', e, later_short _ d d' line said L)
  answered_short Ended t line said h = h
