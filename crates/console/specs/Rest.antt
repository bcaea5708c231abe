-- How much of a line is left.
use Rattle.std.specs.Prelude.{ℕ, ◌+◌, List, length, Some, None, Option}
use Rattle.std.specs.Borrow.{Bor}

-- How many bytes are left, and one for the space that would have to follow.
abbrev pub room : Option (Bor (List ℕ)) → ℕ
room None = 0
room (Some r) = length r.now + 1
