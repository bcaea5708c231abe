use Rattle.std.proofs.Common.{◌≡◌, ◌+◌, ◌≤◌, false, length, sym, ap, ◌∙◌, subst, inl, arith, length-append}
use Rattle.definitions.specs.Networks.{Holds, place, failed}
use Rattle.routes.specs.Records.{Leads, next_of}
use Rattle.routes.proofs.Walking.{walk_more}
use Rattle.routes.proofs.walk.Walk.turning_point.Goals as goal
use Rattle.routes.proofs.walk.Walk.turning_point.Goals.{then-at-destination-via-then-at-destination, then-at-destination-via-else-at-destination+then-passed-self}

pub loop-at-preserved : goal.loop-at-preserved
loop-at-preserved g c =
    let net = g.N.Network.meaning c.args.self.now.network in
    let nx = next_of c.args.self.now.records.now in
    let k = c.in-Some.k in
    let l = c.in-Some-place.link in
    let h : Holds net k l = ap (place net.places) (sym c.from-in-loop-at.ensures) ∙ (sym c.place.ensures ∙ c.in-Some-place.is) in
    let ok : failed net c.args.failure k ≡ false = ap (failed net c.args.failure) (sym c.from.ensures) ∙ (sym c.has_failed.ensures ∙ c.if-has_failed.false) in
    let sound = (g.N.Network.limits c.args.self.now.network).sound k l h in (
      (λ _. omega (arith, sound.1, c.from-at.ensures)),
      omega arith,
      λ ks P lt.
          let (js, is, q, Q, W, z, S) = c.loop-at.invariant.2 ks P lt in
          let (xs, ys, q', Q', W', z', S') = walk_more net nx c.args.failure c.args.destination c.args.node c.loop-at.at k l ks js is c.if-at-destination.false (sym c.in-Some.ensures) h ok q Q W S in
          (xs, ys, q', subst (λ x. Leads net nx x c.args.node xs) (sym c.from-at.ensures) Q', subst (λ x. Leads net nx c.args.destination x ys) (sym c.from-at.ensures) W', z' ∙ ap (λ i. i + 1) z, S'),
    )

pub returns-then-at-destination : goal.returns-then-at-destination
returns-then-at-destination g c = record {
  turned = λ ks P lt.
      let (js, is, q, Q, W, z, S) = c.loop-at.invariant.2 ks P lt in
      elim c.then-at-destination.branch [
        | then-at-destination-via-then-at-destination w ↦ (js, is, q, Q, z, S, inl w.if-at-destination.true)
        | then-at-destination-via-else-at-destination+then-passed-self w ↦
            (let a = ap length q in let b = length-append js is in let e : length c.args.self.now.records.now ≤ c.loop-at.passed = omega (arith, w.if-passed-self.true) in absurd (omega arith))
      ];
  inside = c.loop-at.invariant.0;
  passed = c.loop-at.invariant.1;
}
