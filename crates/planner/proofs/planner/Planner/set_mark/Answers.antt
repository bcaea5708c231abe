use Rattle.std.proofs.Common.{◌≡◌, vec_items, false, refl, sym, ◌∙◌, inl, inr, rules}
use Rattle.std.proofs.lemmas.List.{get_or_default}
use Rattle.definitions.specs.Networks.{Holds}
use Rattle.histories.specs.State.{marked}
use Rattle.planner.proofs.Marking.{same_mark}
use Rattle.planner.proofs.Room.{room}
use Rattle.planner.proofs.planner.Planner.set_mark.Goals as goal

pub returns-then-index-withdrawn-clause-answer : goal.returns-then-index-withdrawn-clause-answer
returns-then-index-withdrawn-clause-answer g c =
    let p = c.args.self.now in
    let h : Holds (g.N.Network.meaning p.network) c.args.place c.in_ok-ok_or.field-0 = search rules in
    let lt = room g.N.Network.meaning g.N.Network.limits p c.args.place c.in_ok-ok_or.field-0 h in
    let e : marked (vec_items p.withdrawn) c.args.place ≡ c.args.withdrawn =
    get_or_default (vec_items p.withdrawn) c.args.place false c.index.result.now lt ∙ (sym c.index.ensures ∙ same_mark c.index.result.now c.args.withdrawn c.if-index-withdrawn.true) in
    inl (c.in_ok-ok_or.field-0, h, inr ((λ ne. ne e), (refl, refl)))
