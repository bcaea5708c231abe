-- Layer, number, place and byte of each fault of a map.
use Rattle.std.specs.Prelude.{ℕ, ◌+◌, ◌*◌, List, codes}
use Rattle.definitions.specs.declared.FaultCode.{FaultCode}
use Rattle.networks.specs.declared.draft.DraftFault.{DraftFault}
use Rattle.networks.specs.declared.draft.DraftFault.TheVariants.{NodeCount, Full, TailBeyond, HeadBeyond, SameEnds, NoMemory}
use Rattle.networks.specs.Faults.{draft_code}
use Rattle.maps.specs.declared.fault.MapFault.{MapFault}
use Rattle.maps.specs.declared.fault.MapFault.TheVariants.{TooShort, Nodes, Links, WrongLength, BadLink, EmptyPlace, SmallBuffer}

abbrev in_layer_2 : ℕ → ℕ → FaultCode
in_layer_2 number place = record { layer = 2; number = number; place = place }

-- A link's fault is carried whole: its code is the draft's.
abbrev pub map_code : MapFault → FaultCode
map_code (TooShort n) = in_layer_2 6 n
map_code (Nodes n) = in_layer_2 1 n
map_code (Links m) = in_layer_2 2 m
map_code (WrongLength n) = in_layer_2 7 n
map_code (BadLink f at) = draft_code f
map_code (EmptyPlace k) = in_layer_2 18 k
map_code (SmallBuffer n) = in_layer_2 16 n

-- The byte at which the fault of a link lies: that of its head where the head is no node, else that of its tail.
abbrev pub link_byte : DraftFault → ℕ
link_byte (TailBeyond k) = 4 + 4 * k
link_byte (HeadBeyond k) = 6 + 4 * k
link_byte (SameEnds k) = 4 + 4 * k
link_byte (NodeCount _) = 0
link_byte (Full _) = 0
link_byte NoMemory = 0

-- The byte at which a fault lies; 0 for what only writing finds.
abbrev pub byte_of : MapFault → ℕ
byte_of (TooShort n) = n
byte_of (Nodes _) = 0
byte_of (Links _) = 2
byte_of (WrongLength n) = n
byte_of (BadLink _ at) = at
byte_of (EmptyPlace _) = 0
byte_of (SmallBuffer _) = 0

-- What a fault means, in words.
abbrev pub fault_words : MapFault → List ℕ
fault_words (TooShort _) = codes "a map has at least four bytes"
fault_words (Nodes _) = codes "the node count is not 1 to 256"
fault_words (Links _) = codes "the link count is above 1,024"
fault_words (WrongLength _) = codes "a map has 4 bytes and 12 for each link"
fault_words (BadLink (TailBeyond _) _) = codes "the tail of this link is not below the node count"
fault_words (BadLink (HeadBeyond _) _) = codes "the head of this link is not below the node count"
fault_words (BadLink (SameEnds _) _) = codes "this link leads from a node to itself"
fault_words (BadLink (NodeCount _) _) = codes "no draft would take this link"
fault_words (BadLink (Full _) _) = codes "no draft would take this link"
fault_words (BadLink NoMemory _) = codes "no draft would take this link"
fault_words (EmptyPlace _) = codes "this place holds no link"
fault_words (SmallBuffer _) = codes "the buffer does not hold the map"
