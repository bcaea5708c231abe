use Rattle.std.proofs.Common.{◌+◌, ◌<◌, length, None, count_by, sym, ap, ◌∙◌, arith, take_all}
use Rattle.std.proofs.lemmas.List.Sums.{count_by_more_yes, count_by_more_no}
use Rattle.survey.specs.Surveys.{selects}
use Rattle.survey.proofs.count_links.Goals as goal
use Rattle.survey.proofs.count_links.Goals.{then-holds, else-holds}

pub loop-k-preserved : goal.loop-k-preserved
loop-k-preserved g c =
    let places = (g.N.Network.meaning c.args.network.now).places in
    let s = c.args.selection in
    let k = c.loop-k.k in
    let within : k < length places = omega arith in
    let here = ap (selects s) (sym c.place.ensures) in
    elim c.if-holds.branch [
      | then-holds w ↦
          (w.count-is ∙ ap (λ n. n + 1) c.loop-k.invariant.0 ∙ sym (count_by_more_yes (selects s) places k None within (here ∙ sym w.if-holds.ensures)), omega (arith, w.count-is))
      | else-holds w ↦
          (w.count-is ∙ c.loop-k.invariant.0 ∙ sym (count_by_more_no (selects s) places k None within (here ∙ sym w.if-holds.ensures)), omega (arith, w.count-is))
    ]

pub returns : goal.returns
returns g c =
    let places = (g.N.Network.meaning c.args.network.now).places in
    c.loop-k.invariant.0 ∙ ap (count_by (selects c.args.selection)) (take_all c.loop-k.k places (omega arith))
