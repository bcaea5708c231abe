use Rattle.std.proofs.Common.{◌≡◌, ℕ, ◌+◌, List, ◌++◌, take, set, None, sym, ap, ◌∙◌, subst, arith}
use Rattle.definitions.specs.Networks.{Holds, place}
use Rattle.routes.specs.Records.{Leads, next_of}
use Rattle.routes.proofs.Walking.{nothing_there, more_to_write, wrote_more}
use Rattle.routes.proofs.walk.Walk.write_places.Goals as goal

pub returns-in_default : goal.returns-in_default
returns-in_default g c e ks P z =
    let net = g.N.Network.meaning c.args.self.now.network in
    let (js, Q, q) = c.loop-slot.invariant e ks P z in
    let (k, l, is, ej, nj, hj, Q') = more_to_write net (next_of c.args.self.now.records.now) e c.loop-slot.at c.loop-slot.slot-index c.loop-slot.places js ks Q q (omega arith) (omega arith) in
    nothing_there _ k nj (sym c.in_default.ensures)

pub returns-in_default-place : goal.returns-in_default-place
returns-in_default-place g c e ks P z =
    let net = g.N.Network.meaning c.args.self.now.network in
    let (js, Q, q) = c.loop-slot.invariant e ks P z in
    let (k, l, is, ej, nj, hj, Q') = more_to_write net (next_of c.args.self.now.records.now) e c.loop-slot.at c.loop-slot.slot-index c.loop-slot.places js ks Q q (omega arith) (omega arith) in
    let n = c.in-Some.ensures in
    let kk : c.in-Some.k ≡ k = cc in
    let none : place net.places c.in-Some.k ≡ None = ap (place net.places) (sym c.from.ensures) ∙ (sym c.place.ensures ∙ c.in_default-place.is) in
    nothing_there _ l hj (subst (λ x. place net.places x ≡ None) kk none)

pub loop-slot-preserved : goal.loop-slot-preserved
loop-slot-preserved g c =
    let net = g.N.Network.meaning c.args.self.now.network in
    let nx = next_of c.args.self.now.records.now in
    let h : Holds net c.in-Some.k c.in-Some-place.link = ap (place net.places) (sym c.from.ensures) ∙ (sym c.place.ensures ∙ c.in-Some-place.is) in
    let head = c.from-at.ensures in
    λ e ks P z.
    let (js, Q, q) = c.loop-slot.invariant e ks P z in
    subst (λ x. (is : List ℕ) × Leads net nx e x is × (take (c.loop-slot.slot-index + 1) (set c.loop-slot.places c.loop-slot.slot-index c.in-Some.k) ++ is ≡ ks)) (sym head)
    (wrote_more net nx e c.loop-slot.at c.loop-slot.slot-index c.in-Some.k c.in-Some-place.link c.loop-slot.places js ks (sym c.in-Some.ensures) h Q q (omega arith) (omega arith))
