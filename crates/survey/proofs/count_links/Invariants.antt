use Rattle.std.proofs.Common.{◌≡◌, ◌≤◌, take, count_by}
use Rattle.survey.specs.Surveys.{selects}
use Rattle.survey.proofs.count_links.Given as goal

-- The links of the places so far are counted.
abbrev pub invariant-loop-k : goal.invariant-loop-k
invariant-loop-k g l = (l.count ≡ count_by (selects l.selection) (take l.k (g.N.Network.meaning l.network).places)) × (l.count ≤ l.k)
