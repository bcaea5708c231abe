use Rattle.std.proofs.Common.{◌≡◌, ◌/◌, ◌%◌, ◌^◌, ◌<◌, ◌≤◌, eqb, sym, ap, ◌∙◌, arith, pow_mono, le-ltb}
use Rattle.std.proofs.Math.Nat.{div-eq_of_lt}
use Rattle.definitions.proofs.Link.in_group.Goals as goal

-- groups of 32 bits have no bit from 32 on
pub returns-else-b-lt-GROUP_COUNT : goal.returns-else-b-lt-GROUP_COUNT
returns-else-b-lt-GROUP_COUNT c =
    let g = c.args.self.groups in
    let narrow : g < 2 ^ 32 = c.well_formed.0.1.1.1.1.1.0.1 in
    let beyond : 32 ≤ c.args.b = omega arith in
    let wide : 2 ^ 32 ≤ 2 ^ c.args.b = pow_mono beyond in
    let none : g / 2 ^ c.args.b ≡ 0 = div-eq_of_lt (omega arith) in
    le-ltb c.args.b _ c.if-b-lt-GROUP_COUNT.false ∙ sym (ap (λ x. eqb (x % 2) 1) none)
