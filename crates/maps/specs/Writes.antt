-- The bytes of a network's map, and what writing them answers.
use Rattle.std.specs.Prelude.{◌≡◌, ℕ, ◌+◌, ◌*◌, cond, not, List, ◌++◌, length, take, drop, is_some, Some, None, Ok, Err, Option, Result, ◌==◌, nat_lt}
use Rattle.std.specs.Option.{option_or}
use Rattle.std.specs.Int.{w16, w32, to_be_bytes}
use Rattle.std.specs.List.{find, flat_map, range_with_len}
use Rattle.definitions.specs.declared.Link.{Link}
use Rattle.maps.specs.declared.fault.MapFault.{MapFault}
use Rattle.maps.specs.declared.fault.MapFault.TheVariants.{Nodes, EmptyPlace, SmallBuffer}
use Rattle.definitions.specs.Networks.{Net, place}
use Rattle.maps.specs.Faults.{byte_of}
use Rattle.maps.specs.Checks.{map_fault, opened}

-- A link's entries in the two arrays of a map. All numbers have the high byte first.
abbrev pub ends : Link → List ℕ
ends l = to_be_bytes w16 l.tail ++ to_be_bytes w16 l.head

abbrev pub attributes : Link → List ℕ
attributes l = to_be_bytes w32 l.figure ++ to_be_bytes w32 l.groups

-- The link of a place; an empty one, which no map has, counts as zeros.
abbrev pub link_of : Option Link → Link
link_of (Some l) = l
link_of None = record { tail = 0; head = 0; figure = 0; groups = 0 }

-- An array of a map: the entry of each place's link, one behind the other.
abbrev pub entries : (Link → List ℕ) → List (Option Link) → List ℕ
entries entry ps = flat_map (λ p. entry (link_of p)) ps

-- The map of a network: node count, link count, then the two arrays.
abbrev pub sizes : Net → List ℕ
sizes n = to_be_bytes w16 n.nodes ++ to_be_bytes w16 (length n.places)

abbrev pub map_bytes : Net → List ℕ
map_bytes n = sizes n ++ (entries ends n.places ++ entries attributes n.places)

abbrev pub map_length : Net → ℕ
map_length n = 4 + 12 * length n.places

-- The first empty place.
abbrev pub first_empty : List (Option Link) → Option ℕ
first_empty ps = find (λ k. not (is_some (place ps k))) (range_with_len 0 (length ps))

abbrev pub unless_empty : Option ℕ → Result ℕ MapFault → Result ℕ MapFault
unless_empty (Some k) next = Err (EmptyPlace k)
unless_empty None next = next

-- The first "no" to the questions put before a map is written into `room` bytes, else its length.
abbrev pub writable : Net → ℕ → Result ℕ MapFault
writable n room =
    cond (n.nodes == 0) (Err (Nodes 0))
    (unless_empty (first_empty n.places)
    (cond (nat_lt room (map_length n)) (Err (SmallBuffer (map_length n))) (Ok (map_length n))))

-- The buffer afterwards: the map and what it held beyond; after a fault, what it held.
abbrev pub written : Net → List ℕ → Result ℕ MapFault → List ℕ
written n old (Ok len) = map_bytes n ++ drop len old
written n old (Err f) = old

-- What was written passes the check, and opens as the same network.
abbrev pub ReadsBack : Net → List ℕ → Result ℕ MapFault → Type 0
ReadsBack n new (Ok len) = (map_fault (take len new) ≡ None) × (opened (take len new) ≡ n)
ReadsBack n new (Err f) = Unit

-- A refusal to write lies at byte 0.
abbrev pub AtByteZero : Result ℕ MapFault → Type 0
AtByteZero (Ok len) = Unit
AtByteZero (Err f) = byte_of f ≡ 0

-- The first "no" before a map is read and written again: those of the check, then whether the bytes find room.
abbrev pub rewrite_fault : List ℕ → ℕ → Option MapFault
rewrite_fault bs room = option_or (map_fault bs) (cond (nat_lt room (length bs)) (Some (SmallBuffer (length bs))) None)

-- A map read and written again is the same bytes.
abbrev pub Rewritten : List ℕ → List ℕ → List ℕ → Result ℕ MapFault → Type 0
Rewritten bs old new (Ok len) = (rewrite_fault bs (length old) ≡ None) × (len ≡ length bs) × (new ≡ bs ++ drop len old)
Rewritten bs old new (Err f) = (rewrite_fault bs (length old) ≡ Some f) × (new ≡ old)
