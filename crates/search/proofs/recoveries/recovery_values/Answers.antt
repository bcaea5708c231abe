use Rattle.std.proofs.Common.{◌≡◌, ℕ, ◌+◌, ◌-◌, ◌<◌, ◌++◌, None, ◌∙◌, ⊎_elim, sym, subst, rules, arith, length-set}
use borrow.Rule.Slice.PartMut.{post_of}
use Rattle.std.proofs.lemmas.Bool.{cases_lt}
use Rattle.std.proofs.lemmas.List.{get_or_append_left, get_or-append_right, get_or-drop}
use Rattle.definitions.specs.Networks.{place, at_risk}
use Rattle.definitions.specs.Routes.{BestIs}
use Rattle.definitions.specs.Plans.{plain}
use Rattle.frontier.proofs.Offering.{holds_inside}
use Rattle.frontier.proofs.Stored.{cleared}
use Rattle.search.proofs.Slots.{slot_more}
use Rattle.search.proofs.recoveries.recovery_values.Invariants.{Recovers}
use Rattle.search.proofs.recoveries.recovery_values.Goals as goal

pub loop-k-preserved : goal.loop-k-preserved
loop-k-preserved g c =
    let (below, long) = c.loop-k.invariant in (
      slot_more (Recovers g.M.Measure.scale (g.N.Network.meaning c.args.network.now) c.args.t) c.loop-k.slot-items c.loop-k.k c.recovery.result (omega arith) below
          (c.recovery.ensures.link, c.recovery.ensures.empty),
      length-set c.loop-k.slot-items c.loop-k.k _ ∙ long,
    )

pub returns-clause-found : goal.returns-clause-found
returns-clause-found g c =
    let net = g.N.Network.meaning c.args.network.now in
    let count = c.place_count-count.result in
    let (below, long) = c.loop-k.invariant in
    let found = c.loop-k.slot-items in
    let rest = post_of 0 count c.fill.new.self in
    let none = (cleared _ _ (c.fill.ensures.after (λ o same. search rules))).0 in
    let within : (k : ℕ) → k < count → place (found ++ rest) k ≡ place found k = λ k lt. get_or_append_left found rest None k (omega arith) in
    record {
      inside = c.in_ok-check_destination.ensures.node;
      of_link = λ k l h.
          let lt : k < count = (let z = holds_inside net k l h in omega arith) in
          subst (λ x. BestIs (plain g.M.Measure.scale) (at_risk k net) c.args.t l.tail x) (sym (within k lt)) ((below k (omega arith)).0 l h);
      of_empty = λ k e. ⊎_elim (λ lt. within k lt ∙ (below k (omega arith)).1 e)
          (λ past. get_or-append_right found rest count k None long past ∙ get_or-drop count c.fill.new.self (k - count) None ∙ none _) (cases_lt k count);
    }
