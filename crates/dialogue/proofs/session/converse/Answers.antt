use Rattle.std.proofs.Common.{ℕ, List, subst}
use Rattle.std.proofs.lemmas.Result.{IfOk-weaker}
use Rattle.lines.specs.Dialogues.{Dialogue as Exchange}
use Rattle.dialogue.specs.Sessions.{is_over, Answered}
use Rattle.dialogue.proofs.session.converse.Goals as goal

pub returns : goal.returns
returns g c =
    IfOk-weaker c.respond_all.result _ _
    (λ _ a.
    let lines : List (List ℕ) = a.2.0 in
    (a.0, a.1, (lines, c.respond_all.new.responder, a.2.1, subst (λ s. Exchange (Answered g.N.Network.meaning) is_over lines s c.respond_all.new.responder a.0) c.new-session.ensures a.2.2)))
    c.respond_all.ensures
