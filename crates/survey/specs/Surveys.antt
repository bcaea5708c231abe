-- How many links of a network are of a kind.
use Rattle.std.specs.Prelude.{ℕ, Bool, true, false, Some, None, count_by, Option, ◌==◌}
use Rattle.definitions.specs.declared.Link.{Link}
use Rattle.definitions.specs.Networks.{Net, in_group}
use Rattle.survey.specs.declared.Selection.{Selection}
use Rattle.survey.specs.declared.Selection.TheVariants.{All, InGroup, From, Into}

-- The link is one of the selection.
abbrev pub is_selected : Selection → Link → Bool
is_selected All l = true
is_selected (InGroup b) l = in_group b (Some l)
is_selected (From u) l = l.tail == u
is_selected (Into u) l = l.head == u

-- The place holds a link of the selection.
abbrev pub selects : Selection → Option Link → Bool
selects s None = false
selects s (Some l) = is_selected s l

-- How many places hold one.
abbrev pub selected : Selection → Net → ℕ
selected s net = count_by (selects s) net.places
