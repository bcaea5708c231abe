use Rattle.std.proofs.Common.{◌≡◌, ◌++◌, take, Some, ap, rules}
use Rattle.lines.proofs.Feeding.{held, leads_line}
use Rattle.lines.proofs.feed.Feed.end_line.Goals as goal

pub returns : goal.returns
returns g c =
    let now = c.in_ok-answer.ensures in
    let line : c.line.result.now ≡ take 65 (held c.args.self.now ++ c.args.bytes.now) = search rules in (
      now.0,
      now.1,
      leads_line g.R.Responder.answers g.R.Responder.ended g.R.Responder.short c.args.self.now _ c.args.responder.now _ c.args.bytes.now _ now.0 c.requires line now.2 (ap Some c.clear.ensures),
    )
