-- Layer, number and place of each refusal of a draft.
use Rattle.definitions.specs.declared.FaultCode.{FaultCode}
use Rattle.networks.specs.declared.draft.DraftFault.{DraftFault}
use Rattle.networks.specs.declared.draft.DraftFault.TheVariants.{NodeCount, Full, TailBeyond, HeadBeyond, SameEnds, NoMemory}

-- Want of memory is no question of the rules, and has the number 0.
abbrev pub draft_code : DraftFault → FaultCode
draft_code (NodeCount n) = record { layer = 1; number = 1; place = n }
draft_code (Full k) = record { layer = 1; number = 2; place = k }
draft_code (TailBeyond k) = record { layer = 1; number = 3; place = k }
draft_code (HeadBeyond k) = record { layer = 1; number = 4; place = k }
draft_code (SameEnds k) = record { layer = 1; number = 5; place = k }
draft_code NoMemory = record { layer = 1; number = 0; place = 0 }
