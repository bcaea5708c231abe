use Rattle.std.proofs.Common.{◌≡◌, ◌⊎◌, Some, ap, sym, ◌∙◌, subst, arith, take_all}
use Rattle.networks.specs.declared.draft.DraftFault.TheVariants.{NoMemory}
use Rattle.std.proofs.lemmas.Result.{err_from_is_err_and}
use Rattle.definitions.specs.declared.Link.{Link}
use Rattle.definitions.specs.Networks.{listed}
use Rattle.networks.specs.Drafts.{network_fault}
use Rattle.networks.proofs.Tables.{fault_more, added_more, added_not}
use Rattle.networks.proofs.draft.Book.from_links.Goals as goal

pub returns-in_err-add : goal.returns-in_err-add
returns-in_err-add c =
    let p = err_from_is_err_and c.from_residual-in_err-add.result c.from_residual-in_err-add.ensures.1 in
    let d : Link = record { tail = 0; head = 0; figure = 0; groups = 0 } in
    let fault = added_not c.args.nodes c.args.links.now c.loop-link.link-index d _ _ _ (omega arith) c.loop-link.invariant.0 c.loop-link.invariant.1 c.in_err-add.ensures in
    rw p.1 (subst (λ f. (network_fault c.args.nodes c.args.links.now ≡ Some f) ⊎ (f ≡ NoMemory)) (sym p.2) fault)

pub loop-link-preserved : goal.loop-link-preserved
loop-link-preserved c =
    let links = c.args.links.now in
    let i = c.loop-link.link-index in
    let more = added_more c.args.nodes links i _ _ _ _ (omega arith) c.loop-link.invariant.0 c.in_ok-add.ensures in
    (more.1, fault_more c.args.nodes links i _ (omega arith) c.loop-link.invariant.1 more.0)

pub returns : goal.returns
returns c =
    let whole = take_all _ _ c.loop-link-test.false in
    (ap (network_fault c.args.nodes) (sym whole) ∙ c.loop-link.invariant.1, c.close.ensures ∙ c.loop-link.invariant.0 ∙ ap (listed c.args.nodes) whole)
