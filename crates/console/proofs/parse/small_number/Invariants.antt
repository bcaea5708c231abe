use Rattle.std.proofs.Common.{◌≡◌, ◌<◌, true, drop}
use Rattle.std.specs.Str.{all_ascii_digits}
use Rattle.console.specs.Words.{number_of}
use Rattle.console.proofs.parse.small_number.Given as goal

abbrev pub invariant-loop-d : goal.invariant-loop-d
invariant-loop-d l = (number_of 0 l.digits ≡ number_of l.n (drop l.d-index l.digits)) × (all_ascii_digits (drop l.d-index l.digits) ≡ true) × (l.n < 65536)
