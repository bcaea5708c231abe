-- A map read and written again is the same bytes.
use Rattle.std.proofs.Common.{◌≡◌, ℕ, zero, suc, ◌+◌, ◌*◌, ◌<◌, ◌≤◌, Bool, true, false, cond, not, eqb, ltb, List, ◌++◌, map, length, get_or, take, drop, is_some, Some, None, Ok, Err, Option, Result, sym, refl, ap, ◌∙◌, mul-zero, mul-suc, arith, take-append-drop, take-add}
use Rattle.std.specs.Int.{w16, w32, to_be_bytes}
use Rattle.std.specs.List.{range_with_len, flat_map}
use Rattle.std.proofs.lemmas.Bool.Decides.{nat_tests}
use Rattle.std.proofs.lemmas.List.{drop-drop, take_all, length-drop, length-take-le}
use Rattle.std.proofs.lemmas.Nat.{be_bytes_2, be_bytes_4}
use Rattle.definitions.specs.declared.Link.{Link}
use Rattle.maps.specs.declared.fault.MapFault.{MapFault}
use Rattle.maps.specs.declared.fault.MapFault.TheVariants.{SmallBuffer}
use Rattle.definitions.specs.Networks.{Net, place}
use Rattle.maps.specs.Maps.{number_at, node_count, link_count, link_at, mapped}
use Rattle.maps.specs.Checks.{size_fault, map_fault}
use Rattle.maps.specs.Writes.{ends, attributes, link_of, entries, sizes, map_bytes, map_length, first_empty, writable, written, Rewritten}
use Rattle.maps.proofs.Firsts.{sizes_right, no_size_fault, part_fits, place_within, mapped_places}
use Rattle.maps.proofs.Empties.{nothing_found}

module _ (bs : List ℕ) (fits : (i : ℕ) → get_or bs i 0 < 256) where
  -- What is read at i, written again.
  one16 : (i : ℕ) → i + 2 ≤ length bs → to_be_bytes w16 (number_at w16 bs i) ≡ take 2 (drop i bs)
  one16 i h = be_bytes_2 (take 2 (drop i bs)) _ (length-take-le 2 (drop i bs) (omega (arith, length-drop i bs))) (part_fits bs fits 2 i) refl

  one32 : (i : ℕ) → i + 4 ≤ length bs → to_be_bytes w32 (number_at w32 bs i) ≡ take 4 (drop i bs)
  one32 i h = be_bytes_4 (take 4 (drop i bs)) _ (length-take-le 4 (drop i bs) (omega (arith, length-drop i bs))) (part_fits bs fits 4 i) refl

  -- Two of c bytes, one behind the other.
  two : (xs ys : List ℕ) (c i j : ℕ) → xs ≡ take c (drop i bs) → ys ≡ take c (drop j bs) → i + c ≡ j → xs ++ ys ≡ take (c + c) (drop i bs)
  two xs ys c i j e f next =
      ap (λ zs. zs ++ ys) e
      ∙ ap (λ zs. take c (drop i bs) ++ zs) (f ∙ ap (λ k. take c (drop k bs)) (sym next) ∙ ap (take c) (sym (drop-drop c i bs)))
      ∙ sym (take-add c c (drop i bs))

  two16 : (i j : ℕ) → i + 2 ≡ j → i + 4 ≤ length bs → to_be_bytes w16 (number_at w16 bs i) ++ to_be_bytes w16 (number_at w16 bs j) ≡ take 4 (drop i bs)
  two16 i j e h = two _ _ 2 i j (one16 i (omega arith)) (one16 j (omega arith)) e

  two32 : (i j : ℕ) → i + 4 ≡ j → i + 8 ≤ length bs → to_be_bytes w32 (number_at w32 bs i) ++ to_be_bytes w32 (number_at w32 bs j) ≡ take 8 (drop i bs)
  two32 i j e h = two _ _ 4 i j (one32 i (omega arith)) (one32 j (omega arith)) e

-- Entries of c bytes, read one behind the other, are the bytes from `base` on.
entries_from : (f : Option Link → List ℕ) (c : ℕ) (g : ℕ → Option Link) (bs : List ℕ) (base m : ℕ) → ((k : ℕ) → k < m → f (g k) ≡ take c (drop (base + c * k) bs)) → (a n : ℕ) → a + n ≤ m → flat_map f (map g (range_with_len a n)) ≡ take (c * n) (drop (base + c * a) bs)
entries_from f c g bs base m each a zero h = sym (ap (λ k. take k (drop (base + c * a) bs)) (mul-zero c))
entries_from f c g bs base m each a (suc n) h =
    let next : base + c * (a + 1) ≡ base + c * a + c = omega (arith, mul-suc c a) in
    let size : c + c * n ≡ c * suc n = omega (arith, mul-suc c n) in
    ap (λ xs. xs ++ flat_map f (map g (range_with_len (a + 1) n))) (each a (omega arith))
    ∙ ap (λ xs. take c (drop (base + c * a) bs) ++ xs) (entries_from f c g bs base m each (a + 1) n (omega arith) ∙ ap (λ k. take (c * n) (drop k bs)) next ∙ ap (take (c * n)) (sym (drop-drop c (base + c * a) bs)))
    ∙ sym (take-add c (c * n) (drop (base + c * a) bs))
    ∙ ap (λ k. take k (drop (base + c * a) bs)) size

none_empty : (bs : List ℕ) → first_empty (mapped bs).places ≡ None
none_empty bs =
    let ps = (mapped bs).places in
    let count = mapped_places bs in
    nothing_found (λ k. not (is_some (place ps k))) 0 (length ps) (λ k low high. ap (λ p. not (is_some p)) (place_within bs k (omega (arith, count))))

module _ (bs : List ℕ) (fits : (i : ℕ) → get_or bs i 0 < 256) (long : length bs ≡ 4 + 12 * link_count bs) where
  -- A map's bytes are those that its network is written as.
  pub same_bytes : map_bytes (mapped bs) ≡ bs
  same_bytes =
      let m = link_count bs in
      let n = mapped bs in
      let g : ℕ → Option Link = λ k. Some (link_at bs m k) in
      let count = mapped_places bs in
      let start : sizes n ≡ take 4 bs = ap (λ k. to_be_bytes w16 (node_count bs) ++ to_be_bytes w16 k) count ∙ two16 bs fits 0 2 refl (omega arith) in
      let arcs : entries ends n.places ≡ take (4 * m) (drop 4 bs) = entries_from (λ p. ends (link_of p)) 4 g bs 4 m (λ k h. two16 bs fits (4 + 4 * k) (6 + 4 * k) (omega arith) (omega arith)) 0 m (omega arith) in
      let base : 4 + 4 * m + 8 * 0 ≡ 4 + 4 * m = omega arith in
      let marks : entries attributes n.places ≡ take (8 * m) (drop (4 + 4 * m) bs) = entries_from (λ p. attributes (link_of p)) 8 g bs (4 + 4 * m) m (λ k h. two32 bs fits (4 + 4 * m + 8 * k) (8 + 4 * m + 8 * k) (omega arith) (omega arith)) 0 m (omega arith) ∙ ap (λ k. take (8 * m) (drop k bs)) base in
      let whole : length (drop (4 + 4 * m) bs) ≤ 8 * m = omega (arith, length-drop (4 + 4 * m) bs) in
      ap (λ xs. xs ++ (entries ends n.places ++ entries attributes n.places)) start
      ∙ ap (λ xs. take 4 bs ++ (xs ++ entries attributes n.places)) arcs
      ∙ ap (λ xs. take 4 bs ++ (take (4 * m) (drop 4 bs) ++ xs)) (marks ∙ take_all (8 * m) (drop (4 + 4 * m) bs) whole ∙ sym (drop-drop (4 * m) 4 bs))
      ∙ ap (λ xs. take 4 bs ++ xs) (take-append-drop (4 * m) (drop 4 bs))
      ∙ take-append-drop 4 bs

has_node : (bs : List ℕ) → size_fault bs ≡ None → eqb (node_count bs) 0 ≡ false
has_node bs e = grind (arith, nat_tests)

-- The questions before writing, put to the network of a map.
writable_map : (bs : List ℕ) (room : ℕ) → map_fault bs ≡ None → writable (mapped bs) room ≡ cond (ltb room (length bs)) (Err (SmallBuffer (length bs))) (Ok (length bs))
writable_map bs room none =
    let m = link_count bs in
    let count = mapped_places bs in
    let size = no_size_fault bs none in
    let need : map_length (mapped bs) ≡ length bs = omega (arith, count, (sizes_right bs size).2) in
    rw (has_node bs size, none_empty bs, need) refl

by_room : (bs old new : List ℕ) (b : Bool) (r : Result ℕ MapFault) → b ≡ ltb (length old) (length bs) → map_fault bs ≡ None → r ≡ cond b (Err (SmallBuffer (length bs))) (Ok (length bs)) → new ≡ written (mapped bs) old r → map_bytes (mapped bs) ≡ bs → Rewritten bs old new r
by_room bs old new true (Ok len) test none r wrote same = grind arith
by_room bs old new true (Err f) test none r wrote same = (grind arith, wrote)
by_room bs old new false (Ok len) test none r wrote same = (grind arith, cc, wrote ∙ ap (λ xs. xs ++ drop len old) same)
by_room bs old new false (Err f) test none r wrote same = grind arith

pub rewritten_from : (bs old new : List ℕ) (net : Net) (r : Result ℕ MapFault) → ((i : ℕ) → get_or bs i 0 < 256) → map_fault bs ≡ None → net ≡ mapped bs → r ≡ writable net (length old) → new ≡ written net old r → Rewritten bs old new r
rewritten_from bs old new net r fits none is value bytes =
    let long = (sizes_right bs (no_size_fault bs none)).2 in
    by_room bs old new (ltb (length old) (length bs)) r refl none
    (value ∙ ap (λ x. writable x (length old)) is ∙ writable_map bs (length old) none)
    (bytes ∙ ap (λ x. written x old r) is)
    (same_bytes bs fits long)
