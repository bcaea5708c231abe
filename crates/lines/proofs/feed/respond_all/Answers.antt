use Rattle.std.proofs.Common.{[], ◌++◌, ap, ◌∙◌, append_assoc}
use Rattle.std.proofs.lemmas.Result.{IfOk-weaker}
use Rattle.lines.proofs.Feeding.{fed_none}
use Rattle.lines.proofs.feed.respond_all.Goals as goal

pub returns : goal.returns
returns g c =
    let s = c.args.responder.now in
    let new = c.new-feed.ensures in
    let fed = c.in_ok-feed.ensures in
    let F = fed.2 s [] [] (fed_none g.R.Responder.answers g.R.Responder.ended c.new-feed.result s new) in
    IfOk-weaker c.finish.result _ _
    (λ _ end. (
      fed.0 ++ end.0,
      end.1 ∙ ap (λ x. x ++ end.0) fed.1 ∙ append_assoc _ fed.0 end.0,
      end.2 s c.args.input.now fed.0 F,
    ))
    c.finish.ensures
