-- Layer, number and place of what the console refuses with.
use Rattle.definitions.specs.declared.FaultCode.{FaultCode}
use Rattle.console.specs.Faults.{line_code}
use Rattle.histories.specs.Faults.{planner_code}
use Rattle.maps.specs.Faults.{map_code}
use Rattle.dialogue.specs.declared.fault.Cause.{Cause}
use Rattle.dialogue.specs.declared.fault.Cause.TheVariants.{Line, Map, Planner}

-- A fault is carried whole: its code is its own.
abbrev pub cause_code : Cause → FaultCode
cause_code (Line f) = line_code f
cause_code (Map f) = map_code f
cause_code (Planner f) = planner_code f
