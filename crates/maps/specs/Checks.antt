-- The questions put to the bytes of a map, and the first "no".
use Rattle.std.specs.Prelude.{ℕ, zero, suc, ◌+◌, ◌*◌, min, cond, ◌||◌, List, [], length, Some, None, Option, ◌==◌, nat_lt}
use Rattle.std.specs.Option.{option_map, option_or}
use Rattle.maps.specs.declared.fault.MapFault.{MapFault}
use Rattle.maps.specs.declared.fault.MapFault.TheVariants.{TooShort, Nodes, Links, WrongLength, BadLink}
use Rattle.maps.specs.Faults.{link_byte}
use Rattle.networks.specs.Drafts.{refusal}
use Rattle.definitions.specs.Networks.{Net}
use Rattle.maps.specs.Maps.{node_count, link_count, link_at, mapped}

-- The first of the faults f k, f (k + 1), .., n of them.
abbrev pub first : (ℕ → Option MapFault) → ℕ → ℕ → Option MapFault
first f k zero = None
first f k (suc n) = option_or (f k) (first f (k + 1) n)

-- What is wrong with link k: the draft's questions, with place k.
abbrev pub link_fault : List ℕ → ℕ → Option MapFault
link_fault bs k = option_map (λ f. BadLink f (link_byte f)) (refusal (node_count bs) k (link_at bs (link_count bs) k))

-- What is wrong with the sizes.
abbrev pub size_fault : List ℕ → Option MapFault
size_fault bs =
    cond (nat_lt (length bs) 4) (Some (TooShort (length bs)))
    (cond (node_count bs == 0 || nat_lt 256 (node_count bs)) (Some (Nodes (node_count bs)))
    (cond (nat_lt 1024 (link_count bs)) (Some (Links (link_count bs)))
    (cond (length bs == 4 + 12 * link_count bs) None (Some (WrongLength (min (length bs) (4 + 12 * link_count bs)))))))

-- The first fault of a map.
abbrev pub map_fault : List ℕ → Option MapFault
map_fault bs = option_or (size_fault bs) (first (link_fault bs) 0 (link_count bs))

-- The network of bytes that are opened: that of the map, and one with no nodes and no places where they are no map.
abbrev pub unless : Option MapFault → Net → Net
unless None net = net
unless (Some f) net = record { nodes = 0; places = [] }

abbrev pub opened : List ℕ → Net
opened bs = unless (map_fault bs) (mapped bs)
