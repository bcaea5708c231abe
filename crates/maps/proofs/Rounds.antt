-- A map that was written reads back: it has no fault, and means the network.
use Rattle.std.proofs.Common.{◌≡◌, ℕ, zero, suc, ◌+◌, ◌*◌, ◌<◌, ◌≤◌, Bool, true, false, cond, eqb, ltb, List, ◌++◌, map, length, take, drop, Some, None, Ok, Err, Option, sym, refl, ap, ◌∙◌, arith}
use Rattle.std.specs.Int.{Width, w16, w32, byte_len, from_be_bytes}
use Rattle.std.specs.List.{range_with_len}
use Rattle.std.proofs.lemmas.Nat.{from_be_bytes-to_be_bytes_2, from_be_bytes-to_be_bytes_4}
use Rattle.std.proofs.lemmas.Bool.Decides.{nat_tests}
use Rattle.std.proofs.lemmas.List.FromFn.{fill_by_all}
use Rattle.std.proofs.lemmas.List.{drop-drop, drop-append-le, drop_at, drop_more, length-append, take_at}
use Rattle.definitions.specs.declared.Link.{Link}
use Rattle.std.specs.Option.{option_map}
use Rattle.maps.specs.declared.fault.MapFault.{MapFault}
use Rattle.maps.specs.declared.fault.MapFault.TheVariants.{Nodes, EmptyPlace, BadLink, SmallBuffer}
use Rattle.maps.specs.Faults.{link_byte, byte_of}
use Rattle.definitions.specs.Networks.{Net, Limits, Sound, place}
use Rattle.networks.specs.Drafts.{refusal}
use Rattle.maps.specs.Maps.{number_at, node_count, link_count, link_at, mapped}
use Rattle.maps.specs.Checks.{first, link_fault, size_fault, map_fault, unless, opened}
use Rattle.maps.specs.Writes.{link_of, ends, attributes, entries, map_bytes, map_length, first_empty, unless_empty, writable, ReadsBack}
use Rattle.maps.proofs.Empties.{full_at}
use Rattle.maps.proofs.Pastes.{length_entries, drop_entries}

-- Where the bytes from n on are known, so are the numbers read there.
number_in : (w : Width) (bs xs : List ℕ) (n i j : ℕ) → drop n bs ≡ xs → n + i ≡ j → number_at w bs j ≡ number_at w xs i
number_in w bs xs n i j e place = ap (λ ys. from_be_bytes w (take (byte_len w) ys)) (ap (λ k. drop k bs) (sym place) ∙ sym (drop-drop i n bs) ∙ ap (drop i) e)

-- The bytes from link k's entries on.
at_ends : (n : Net) (k : ℕ) → k < length n.places → drop (4 + 4 * k) (map_bytes n) ≡ ends (link_of (place n.places k)) ++ (entries ends (drop (k + 1) n.places) ++ entries attributes n.places)
at_ends n k h =
    let E = entries ends n.places in
    let L = entries attributes n.places in
    let long : length E ≡ 4 * length n.places = length_entries ends 4 (λ _. refl) n.places in
    sym (drop-drop (4 * k) 4 (map_bytes n))
    ∙ drop-append-le (4 * k) E L (omega arith)
    ∙ ap (λ xs. xs ++ L) (drop_entries ends 4 (λ _. refl) k n.places (omega arith) ∙ ap (entries ends) (drop_more n.places k None h))

at_attributes : (n : Net) (k : ℕ) → k < length n.places → drop (4 + 4 * length n.places + 8 * k) (map_bytes n) ≡ attributes (link_of (place n.places k)) ++ entries attributes (drop (k + 1) n.places)
at_attributes n k h =
    let m = length n.places in
    let E = entries ends n.places in
    let L = entries attributes n.places in
    let long : length E ≡ 4 * m = length_entries ends 4 (λ _. refl) n.places in
    sym (drop-drop (8 * k) (4 + 4 * m) (map_bytes n))
    ∙ ap (drop (8 * k)) (sym (drop-drop (4 * m) 4 (map_bytes n)) ∙ drop_at E L (4 * m) long)
    ∙ drop_entries attributes 8 (λ _. refl) k n.places (omega arith)
    ∙ ap (entries attributes) (drop_more n.places k None h)

pub same_link : (l : Link) (t h f g : ℕ) → t ≡ l.tail → h ≡ l.head → f ≡ l.figure → g ≡ l.groups → ◌≡◌ {A = Link} (record { tail = t; head = h; figure = f; groups = g }) l
same_link l t h f g tail head figure groups = rw (tail, head, figure, groups) refl

-- Link k of the map is the link of place k.
link_back : (n : Net) (k : ℕ) → k < length n.places → n.nodes ≤ 256 → Sound n.nodes (link_of (place n.places k)) → link_at (map_bytes n) (length n.places) k ≡ link_of (place n.places k)
link_back n k h few sound =
    let bs = map_bytes n in
    let m = length n.places in
    let l = link_of (place n.places k) in
    same_link l _ _ _ _
    (number_in w16 bs _ (4 + 4 * k) 0 (4 + 4 * k) (at_ends n k h) (omega arith) ∙ from_be_bytes-to_be_bytes_2 l.tail (omega arith))
    (number_in w16 bs _ (4 + 4 * k) 2 (6 + 4 * k) (at_ends n k h) (omega arith) ∙ from_be_bytes-to_be_bytes_2 l.head (omega arith))
    (number_in w32 bs _ (4 + 4 * m + 8 * k) 0 (4 + 4 * m + 8 * k) (at_attributes n k h) (omega arith) ∙ from_be_bytes-to_be_bytes_4 l.figure (omega arith))
    (number_in w32 bs _ (4 + 4 * m + 8 * k) 4 (8 + 4 * m + 8 * k) (at_attributes n k h) (omega arith) ∙ from_be_bytes-to_be_bytes_4 l.groups (omega arith))

sizes_none : (bs : List ℕ) (nodes m : ℕ) → node_count bs ≡ nodes → link_count bs ≡ m → length bs ≡ 4 + 12 * m → 1 ≤ nodes → nodes ≤ 256 → m ≤ 1024 → size_fault bs ≡ None
sizes_none bs nodes m a b c one few short = grind (arith, nat_tests)

refusal_none : (nodes k : ℕ) (l : Link) → k < 1024 → Sound nodes l → refusal nodes k l ≡ None
refusal_none nodes k l h sound = grind (arith, nat_tests)

firsts_none : (f : ℕ → Option MapFault) (k n : ℕ) → ((j : ℕ) → k ≤ j → j < k + n → f j ≡ None) → first f k n ≡ None
firsts_none f k zero none = refl
firsts_none f k (suc n) none =
    grind (arith, none k, firsts_none f (k + 1) n (λ j low high. none j (omega arith) (omega arith)))

module _ (n : Net) (limits : Limits n) (one : 1 ≤ n.nodes) (full : first_empty n.places ≡ None) where
  nodes_back : node_count (map_bytes n) ≡ n.nodes
  nodes_back = from_be_bytes-to_be_bytes_2 n.nodes (omega (arith, limits.few_nodes))

  links_back : link_count (map_bytes n) ≡ length n.places
  links_back = from_be_bytes-to_be_bytes_2 (length n.places) (omega (arith, limits.few_places))

  pub length_back : length (map_bytes n) ≡ map_length n
  length_back =
      let E = entries ends n.places in
      let L = entries attributes n.places in
      omega (arith, length-append E L, length_entries ends 4 (λ _. refl) n.places, length_entries attributes 8 (λ _. refl) n.places)

  sound_back : (k : ℕ) → k < length n.places → Sound n.nodes (link_of (place n.places k))
  sound_back k h = limits.sound k (link_of (place n.places k)) (full_at n.places full k h)

  place_back : (k : ℕ) → k < length n.places → link_at (map_bytes n) (link_count (map_bytes n)) k ≡ link_of (place n.places k)
  place_back k h = ap (λ m. link_at (map_bytes n) m k) links_back ∙ link_back n k h limits.few_nodes (sound_back k h)

  none_back : (k : ℕ) → k < length n.places → link_fault (map_bytes n) k ≡ None
  none_back k h =
      let bs = map_bytes n in
      ap (option_map (λ f. BadLink f (link_byte f)))
      (ap (λ c. refusal c k (link_at bs (link_count bs) k)) nodes_back
      ∙ ap (refusal n.nodes k) (place_back k h)
      ∙ refusal_none n.nodes k (link_of (place n.places k)) (omega (arith, limits.few_places)) (sound_back k h))

  -- What is written has no fault ..
  pub checks : map_fault (map_bytes n) ≡ None
  checks =
      let bs = map_bytes n in
      let sizes = sizes_none bs n.nodes (length n.places) nodes_back links_back length_back one limits.few_nodes limits.few_places in
      let links = firsts_none (link_fault bs) 0 (link_count bs) (λ j low high. none_back j (omega (arith, links_back))) in
      rw (sizes, links) refl

  -- .. and means the network.
  pub means : mapped (map_bytes n) ≡ n
  means =
      let bs = map_bytes n in
      let places : n.places ≡ map (λ k. Some (link_at bs (link_count bs) k)) (range_with_len 0 (link_count bs)) =
      fill_by_all (λ k. Some (link_at bs (link_count bs) k)) n.places (link_count bs) None (sym links_back)
      (λ k h. let within : k < length n.places = omega (arith, links_back) in full_at n.places full k within ∙ ap Some (sym (place_back k within))) in
      ap (λ c. record { nodes = c; places = (mapped bs).places }) nodes_back ∙ ap (λ ps. record { nodes = n.nodes; places = ps }) (sym places)

-- What an answer with a length says of the network.
asked : (nodes : ℕ) (o : Option ℕ) (need room len : ℕ) → Ok len ≡ cond (eqb nodes 0) (Err (Nodes 0)) (unless_empty o (cond (ltb room need) (Err (SmallBuffer need)) (Ok need))) → (1 ≤ nodes) × (o ≡ None) × (len ≡ need)
asked nodes None need room len e = grind (arith, nat_tests)
asked nodes (Some k) need room len e = grind (arith, nat_tests)

pub writable_ok : (n : Net) (room len : ℕ) → Ok len ≡ writable n room → (1 ≤ n.nodes) × (first_empty n.places ≡ None) × (len ≡ map_length n)
writable_ok n room len e = asked n.nodes (first_empty n.places) (map_length n) room len e

pub reads_back : (n : Net) (new rest : List ℕ) (room len : ℕ) → Limits n → Ok len ≡ writable n room → new ≡ map_bytes n ++ rest → ReadsBack n new (Ok len)
reads_back n new rest room len limits e is =
    let ok = writable_ok n room len e in
    let long : length (map_bytes n) ≡ len = length_back n limits ok.0 ok.1 ∙ sym ok.2 in
    let front : take len new ≡ map_bytes n = ap (take len) is ∙ take_at (map_bytes n) rest len long in
    let none : map_fault (map_bytes n) ≡ None = checks n limits ok.0 ok.1 in
    (ap map_fault front ∙ none, ap opened front ∙ ap (λ o. unless o (mapped (map_bytes n))) none ∙ means n limits ok.0 ok.1)

-- Each refusal to write lies at byte 0.
byte_zero : (b c : Bool) (o : Option ℕ) (need : ℕ) (f : MapFault) → Err f ≡ cond b (Err (Nodes 0)) (unless_empty o (cond c (Err (SmallBuffer need)) (Ok need))) → byte_of f ≡ 0
byte_zero true c o need f e = let same : f ≡ Nodes 0 = cc in ap byte_of same
byte_zero false c (Some k) need f e = let same : f ≡ EmptyPlace k = cc in ap byte_of same
byte_zero false true None need f e = let same : f ≡ SmallBuffer need = cc in ap byte_of same
byte_zero false false None need f e = let z : ◌≡◌ {A = ℕ} 0 1 = cc in absurd (omega arith)

pub writable_byte : (n : Net) (room : ℕ) (f : MapFault) → Err f ≡ writable n room → byte_of f ≡ 0
writable_byte n room f e = byte_zero (eqb n.nodes 0) (ltb room (map_length n)) (first_empty n.places) (map_length n) f e
