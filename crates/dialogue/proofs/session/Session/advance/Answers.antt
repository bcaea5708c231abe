use Rattle.std.proofs.Common.{sym, refl, subst}
use Rattle.std.proofs.lemmas.Result.{IfOk-weaker}
use Rattle.dialogue.specs.declared.session.Session.TheVariants.{ByDelay, ByWidth}
use Rattle.dialogue.specs.Sessions.{Answered}
use Rattle.dialogue.proofs.session.Session.advance.Goals as goal

pub returns-in_ok-answered-in-ByDelay : goal.returns-in_ok-answered-in-ByDelay
returns-in_ok-answered-in-ByDelay g c =
    let a = c.in_ok-answered-in-ByDelay.ensures in
    (a.0, a.1, subst (λ s. Answered g.N.Network.meaning s c.args.line.now (ByDelay c.in_ok-answered-in-ByDelay.field-0) a.0) (sym c.in-ByDelay.is) (c.in_ok-answered-in-ByDelay.field-0, refl, a.2))

pub returns-in_ok-answered-in-ByWidth : goal.returns-in_ok-answered-in-ByWidth
returns-in_ok-answered-in-ByWidth g c =
    let a = c.in_ok-answered-in-ByWidth.ensures in
    (a.0, a.1, subst (λ s. Answered g.N.Network.meaning s c.args.line.now (ByWidth c.in_ok-answered-in-ByWidth.field-0) a.0) (sym c.in-ByWidth.is) (c.in_ok-answered-in-ByWidth.field-0, refl, a.2))
