-- What the bytes of a map say. All numbers have the high byte first.
use Rattle.std.specs.Prelude.{ℕ, ◌+◌, ◌*◌, List, map, take, drop, Some}
use Rattle.std.specs.Int.{Width, w16, w32, byte_len, from_be_bytes}
use Rattle.std.specs.List.{range_with_len}
use Rattle.definitions.specs.declared.Link.{Link}
use Rattle.definitions.specs.Networks.{Net}

-- The number of this width in the bytes from `at` on.
abbrev pub number_at : Width → List ℕ → ℕ → ℕ
number_at w bs at = from_be_bytes w (take (byte_len w) (drop at bs))

-- The sizes: node count, then link count.
abbrev pub node_count : List ℕ → ℕ
node_count bs = number_at w16 bs 0

abbrev pub link_count : List ℕ → ℕ
link_count bs = number_at w16 bs 2

-- Link k of a map with m links: tail and head in the first array, figure and groups in the second.
abbrev pub link_at : List ℕ → ℕ → ℕ → Link
link_at bs m k = record {
  tail = number_at w16 bs (4 + 4 * k);
  head = number_at w16 bs (6 + 4 * k);
  figure = number_at w32 bs (4 + 4 * m + 8 * k);
  groups = number_at w32 bs (8 + 4 * m + 8 * k);
}

-- The network of a map.
abbrev pub mapped : List ℕ → Net
mapped bs = record { nodes = node_count bs; places = map (λ k. Some (link_at bs (link_count bs) k)) (range_with_len 0 (link_count bs)) }
