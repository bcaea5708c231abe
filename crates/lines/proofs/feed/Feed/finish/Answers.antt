use Rattle.std.proofs.Common.{◌≡◌, [], Some, sym, append-nil, rules}
use Rattle.std.proofs.lemmas.Bool.{eqb-true}
use Rattle.std.proofs.lemmas.List.{nil_from_length}
use Rattle.std.proofs.lemmas.Result.{IfOk-weaker}
use Rattle.lines.proofs.Feeding.{held, completes_none, completes_last}
use Rattle.lines.proofs.feed.Feed.finish.Goals as goal

pub returns-in-None : goal.returns-in-None
returns-in-None g c =
    let none : c.args.self.now ≡ Some [] → ⊥ = λ e. cc in
    let line : [] ≡ held c.args.self.now = search rules in
    IfOk-weaker c.answer.result _ _
    (λ _ now. (now.0, now.1, completes_last g.R.Responder.answers g.R.Responder.ended g.R.Responder.short c.args.self.now c.args.responder.now _ [] now.0 none line now.2))
    c.answer.ensures

pub returns-in-Some : goal.returns-in-Some
returns-in-Some g c =
    let none : c.line.result.now ≡ [] = nil_from_length _ (eqb-true _ 0 (search rules)) in
    let empty : c.args.self.now ≡ Some [] = cc c.line.ensures.value in
    ([], sym (append-nil _), completes_none g.R.Responder.answers g.R.Responder.ended c.args.self.now c.args.responder.now empty)

pub returns-in-Some-2 : goal.returns-in-Some-2
returns-in-Some-2 g c =
    let some : c.args.self.now ≡ Some [] → ⊥ = search rules in
    let line : c.line-in-Some-2.result.now ≡ held c.args.self.now = search rules in
    IfOk-weaker c.answer-in-Some-2.result _ _
    (λ _ now. (now.0, now.1, completes_last g.R.Responder.answers g.R.Responder.ended g.R.Responder.short c.args.self.now c.args.responder.now _ _ now.0 some line now.2))
    c.answer-in-Some-2.ensures
