-- Layer, number and place of each refusal of a planner.
use Rattle.definitions.specs.declared.FaultCode.{FaultCode}
use Rattle.histories.specs.declared.fault.PlannerFault.{PlannerFault}
use Rattle.histories.specs.declared.fault.PlannerFault.TheVariants.{NoLink, Withdrawn, InService, NoDestination, NoPlan, NoNode, NoGuarantee, AtDestination, NoRoom, NoGroup}

abbrev pub planner_code : PlannerFault → FaultCode
planner_code (NoLink k) = record { layer = 3; number = 8; place = k }
planner_code (Withdrawn k) = record { layer = 3; number = 9; place = k }
planner_code (InService k) = record { layer = 3; number = 10; place = k }
planner_code (NoDestination t) = record { layer = 3; number = 11; place = t }
planner_code NoPlan = record { layer = 3; number = 12; place = 0 }
planner_code (NoNode u) = record { layer = 3; number = 13; place = u }
planner_code (NoGuarantee u) = record { layer = 3; number = 14; place = u }
planner_code (AtDestination u) = record { layer = 3; number = 15; place = u }
planner_code (NoRoom c) = record { layer = 3; number = 16; place = c }
planner_code (NoGroup b) = record { layer = 3; number = 17; place = b }
