use Rattle.std.proofs.Common.{◌++◌, take, sym, ap, ◌∙◌, subst, append_assoc, append-nil, rules}
use Rattle.std.proofs.lemmas.List.{take_rest}
use Rattle.lines.specs.Dialogues.{Leads}
use Rattle.lines.specs.Lines.{Unbroken, broken_off}
use Rattle.lines.proofs.Feeding.{taken_more, leads_on, leads_kept}
use Rattle.lines.proofs.feed.Feed.feed.Goals as goal

pub loop-end-preserved : goal.loop-end-preserved
loop-end-preserved g c =
    let rest = c.loop-end.rest.now in
    let end = c.in-Some.end in
    let (taken, parts, (said, grown, leads)) = c.loop-end.invariant in
    let (more, added, led) = c.in_ok-end_line.ensures in (
      taken ++ broken_off (take end rest),
      rw take_rest (taken_more c.args.piece.now taken rest end parts (search rules) (search rules)),
      (
        said ++ more,
        added ∙ ap (λ x. x ++ more) grown ∙ append_assoc _ said more,
        leads_on g.R.Responder.answers g.R.Responder.ended _ _ _ _ _ _ _ _ _ _ leads led,
      ),
    )

pub returns : goal.returns
returns g c =
    let rest = c.loop-end.rest.now in
    let (taken, parts, (said, grown, leads)) = c.loop-end.invariant in
    let unbroken : Unbroken rest = search rules in
    let last = leads_kept g.R.Responder.answers g.R.Responder.ended c.loop-end.self c.keep.new.self c.loop-end.responder rest unbroken c.keep.ensures.none c.keep.ensures.some in (
      said,
      grown,
      subst (λ p. Leads g.R.Responder.answers g.R.Responder.ended c.args.self.now c.args.responder.now p c.keep.new.self c.loop-end.responder said) (sym parts)
          (subst (λ x. Leads g.R.Responder.answers g.R.Responder.ended c.args.self.now c.args.responder.now (taken ++ rest) c.keep.new.self c.loop-end.responder x) (append-nil said)
          (leads_on g.R.Responder.answers g.R.Responder.ended _ _ _ _ _ _ _ _ _ _ leads last)),
    )
