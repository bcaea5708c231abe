use Rattle.std.proofs.Common.{◌+◌, ◌-◌, ◌*◌, ◌≤◌, get_or, ◌∙◌, arith}
use Rattle.std.proofs.lemmas.Grind.{common_steps}
use Rattle.console.specs.Words.{number_of}
use Rattle.console.proofs.WordLaws.{turn, too_large}
use Rattle.console.proofs.parse.small_number.Goals as goal

pub overflow_sub-d : goal.overflow_sub-d
overflow_sub-d c = (turn c.args.digits.now c.loop-d.n c.loop-d.d-index (omega arith) c.loop-d.invariant.0 c.loop-d.invariant.1).digit

pub returns-in_err-n : goal.returns-in_err-n
returns-in_err-n c =
    let t = turn c.args.digits.now c.loop-d.n c.loop-d.d-index (omega arith) c.loop-d.invariant.0 c.loop-d.invariant.1 in
    let large : 65536 ≤ c.loop-d.n * 10 + (get_or c.args.digits.now c.loop-d.d-index 0 - 48) = grind (arith, common_steps) in
    c.from_residual.ensures ∙ too_large 65536 (number_of 0 c.args.digits.now) (omega (arith, large))
