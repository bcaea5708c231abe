use Rattle.std.proofs.Common.{◌≡◌, take, None}
use Rattle.definitions.specs.Networks.{listed}
use Rattle.networks.specs.Drafts.{drafted, network_fault}
use Rattle.networks.proofs.draft.Book.from_links.Given as goal

abbrev pub invariant-loop-link : goal.invariant-loop-link
invariant-loop-link l =
    (drafted l.draft ≡ listed l.nodes (take l.link-index l.links)) × (network_fault l.nodes (take l.link-index l.links) ≡ None)
