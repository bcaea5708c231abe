-- Bytes that are to be a map, looked at before the first line.
use Rattle.std.specs.Prelude.{◌≡◌, ℕ, Bool, true, false, List, ◌++◌, Some, None, Ok, Err, Option, Result}
use Rattle.console.specs.Answers.{refusal_line}
use Rattle.maps.specs.declared.fault.MapFault.{MapFault}
use Rattle.maps.specs.Faults.{map_code}
use Rattle.dialogue.specs.declared.fault.Cause.{Cause}
use Rattle.dialogue.specs.declared.fault.Cause.TheVariants.{Map}
use Rattle.dialogue.specs.declared.fault.ConsoleFault.{ConsoleFault}

abbrev pub checked : Option MapFault → Result (Unit {0}) Cause
checked None = Ok tt
checked (Some f) = Err (Map f)

-- The fault of a map belongs to line 0.
abbrev pub at_line_0 : Option MapFault → Result (Unit {0}) ConsoleFault
at_line_0 None = Ok tt
at_line_0 (Some f) = Err (record { line = 0; cause = Map f })

-- Bytes with no fault are admitted and nothing is printed; a fault is printed, with line 0.
abbrev pub Admitted : Option MapFault → Bool → List ℕ → List ℕ → Type 0
Admitted None admitted before after = (admitted ≡ true) × (after ≡ before)
Admitted (Some f) admitted before after = (admitted ≡ false) × (after ≡ before ++ refusal_line 0 (map_code f))
