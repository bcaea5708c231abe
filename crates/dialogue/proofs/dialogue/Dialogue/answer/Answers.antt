use Rattle.std.proofs.Common.{rules}
use Rattle.std.proofs.lemmas.Result.{IfOk-weaker}
use Rattle.dialogue.proofs.Sessions.{later}
use Rattle.dialogue.proofs.dialogue.Dialogue.answer.Goals as goal

pub returns : goal.returns
returns g c =
    let tried = c.try_line-result.ensures in
    IfOk-weaker c.print_reply.result _ _
    (λ _ bytes. (
      _,
      bytes,
      later g.N.Network.meaning g.M.Measure.scale c.args.self.now _ c.args.line.now c.try_line-result.result _ _ (search rules) tried.keeps c.saturating_add-self.ensures tried.answer,
    ))
    c.print_reply.ensures
