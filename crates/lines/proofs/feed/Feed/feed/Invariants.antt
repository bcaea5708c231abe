use Rattle.std.proofs.Common.{◌≡◌, ℕ, List, ◌++◌, length, string_bytes}
use Rattle.lines.specs.Dialogues.{Added, Leads}
use Rattle.lines.proofs.feed.Feed.feed.Given as goal

-- The bytes before the rest were taken.
abbrev pub invariant-loop-end : goal.invariant-loop-end
invariant-loop-end g l =
    (taken : List ℕ) × (l.piece ≡ taken ++ l.rest)
    × Added (string_bytes l.initial.out) (string_bytes l.out) (Leads g.R.Responder.answers g.R.Responder.ended l.initial.self l.initial.responder taken l.self l.responder)

abbrev pub decreases-loop-end : goal.decreases-loop-end
decreases-loop-end g l = length l.rest
