-- Maps as networks, and what reading bytes as a map answers.
use Rattle.std.specs.Prelude.{◌≡◌, ℕ, List, Some, None, Ok, Err, Result}
use Rattle.std.proofs.lemmas.List.FromFn.{length-map-range_with_len}
use Rattle.definitions.specs.Networks.{Net, Limits}
use Rattle.maps.specs.declared.fault.MapFault.{MapFault}
use Rattle.maps.specs.declared.map.Framed.{Framed}
use Rattle.maps.specs.declared.map.Map.{Map}
use Rattle.maps.specs.Maps.{mapped}
use Rattle.maps.specs.Checks.{size_fault, map_fault}

-- The network that a map is.
abbrev pub network_of : Map → Net
network_of map = mapped map.framed.bytes.now

-- A map keeps the limits, since its bytes are well formed.
pub map_limits : (map : Map) → Limits (network_of map)
map_limits map = record {
  few_nodes = map.framed.few;
  few_places = rw length-map-range_with_len map.framed.short;
  sound = map.sound;
}

-- The bytes where their sizes are right, and else what is wrong with the sizes.
abbrev pub HasSizes : List ℕ → Result Framed MapFault → Type 0
HasSizes bs (Ok framed) = (size_fault bs ≡ None) × (framed.bytes.now ≡ bs)
HasSizes bs (Err f) = size_fault bs ≡ Some f

-- The network in the bytes exactly where they have no fault, and else the first fault.
abbrev pub IsMap : List ℕ → Result Map MapFault → Type 0
IsMap bs (Ok map) = (map_fault bs ≡ None) × (network_of map ≡ mapped bs)
IsMap bs (Err f) = map_fault bs ≡ Some f
