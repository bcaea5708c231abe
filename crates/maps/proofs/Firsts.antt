-- The first fault of a row: one step of the search, and what it means that there is none.
use Rattle.std.proofs.Common.{◌≡◌, ℕ, zero, suc, ◌+◌, ◌-◌, ◌*◌, ◌^◌, ◌<◌, ◌≤◌, List, length, get_or, take, drop, Some, None, Option, sym, refl, ap, ◌∙◌, subst, inl, inr, arith}
use Rattle.std.specs.Option.{option_map, option_or}
use Rattle.maps.specs.declared.fault.MapFault.{MapFault}
use Rattle.std.proofs.lemmas.Bool.Decides.{nat_tests}
use Rattle.std.proofs.lemmas.Bool.{cases_lt}
use Rattle.std.proofs.lemmas.List.FromFn.{length-map-range_with_len, get_or-map-range_with_len}
use Rattle.std.specs.Int.{w32}
use Rattle.std.proofs.lemmas.List.{get_or_past, get_or-take, get_or-drop, length-take}
use Rattle.networks.specs.declared.draft.DraftFault.{DraftFault}
use Rattle.definitions.specs.Networks.{AllSound, Sound, place}
use Rattle.maps.specs.Maps.{number_at, node_count, link_count, link_at, mapped}
use Rattle.maps.specs.declared.fault.MapFault.TheVariants.{BadLink}
use Rattle.maps.specs.Faults.{link_byte}
use Rattle.maps.specs.Checks.{first, link_fault, size_fault, map_fault}
use Rattle.networks.proofs.Tables.{sound_unless}

pub first_step : (f : ℕ → Option MapFault) (k n : ℕ) → k < n → first f k (n - k) ≡ option_or (f k) (first f (k + 1) (n - (k + 1)))
first_step f k n h = let e : n - k ≡ suc (n - (k + 1)) = omega arith in ap (first f k) e

pub first_at : (f : ℕ → Option MapFault) (k n : ℕ) (r : Option MapFault) (x : MapFault) → k < n → first f k (n - k) ≡ r → Some x ≡ f k → Some x ≡ r
first_at f k n r x h e here = grind (arith, first_step)

pub first_next : (f : ℕ → Option MapFault) (k n : ℕ) (r : Option MapFault) → k < n → first f k (n - k) ≡ r → None ≡ f k → first f (k + 1) (n - (k + 1)) ≡ r
first_next f k n r h e here = grind (arith, first_step)

pub first_end : (f : ℕ → Option MapFault) (k n : ℕ) (r : Option MapFault) → n ≤ k → first f k (n - k) ≡ r → None ≡ r
first_end f k n r h e = let z : n - k ≡ 0 = omega arith in sym (ap (first f k) z) ∙ e

option_or_none : (a b : Option MapFault) → option_or a b ≡ None → (a ≡ None) × (b ≡ None)
option_or_none None b e = (refl, e)
option_or_none (Some f) b e = grind arith

first_none : (f : ℕ → Option MapFault) (k n : ℕ) → first f k n ≡ None → (j : ℕ) → k ≤ j → j < k + n → f j ≡ None
first_none f k zero e j low high = absurd (omega arith)
first_none f k (suc n) e j low high = grind (arith, option_or_none (f k) (first f (k + 1) n) e, first_none f (k + 1) n)

as_none : (o : Option DraftFault) → option_map (λ f. BadLink f (link_byte f)) o ≡ None → None ≡ o
as_none None e = refl
as_none (Some f) e = grind arith

pub sizes_right : (bs : List ℕ) → size_fault bs ≡ None → (node_count bs ≤ 256) × (link_count bs ≤ 1024) × (length bs ≡ 4 + 12 * link_count bs)
sizes_right bs e = grind (arith, nat_tests)

-- Part of a list of bytes is bytes.
pub part_fits : (bs : List ℕ) → ((i : ℕ) → get_or bs i 0 < 256) → (n at : ℕ) → (i : ℕ) → get_or (take n (drop at bs)) i 0 < 256
part_fits bs fits n at i = grind (arith, fits, get_or-take, get_or-drop, get_or_past, length-take)

number_fits : (bs : List ℕ) → ((i : ℕ) → get_or bs i 0 < 256) → (at : ℕ) → number_at w32 bs at < 2 ^ 32
number_fits bs fits at = let part = part_fits bs fits 4 at in omega (arith, part 0, part 1, part 2, part 3)

-- How many places the network of a map has, and what a place holds.
pub mapped_places : (bs : List ℕ) → length (mapped bs).places ≡ link_count bs
mapped_places bs = length-map-range_with_len (λ k. Some (link_at bs (link_count bs) k)) 0 (link_count bs)

pub place_within : (bs : List ℕ) (k : ℕ) → k < link_count bs → place (mapped bs).places k ≡ Some (link_at bs (link_count bs) k)
place_within bs k h = get_or-map-range_with_len (λ j. Some (link_at bs (link_count bs) j)) 0 (link_count bs) k k None h (omega arith)

pub place_past : (bs : List ℕ) (k : ℕ) → link_count bs ≤ k → place (mapped bs).places k ≡ None
place_past bs k h = get_or_past (mapped bs).places k None (omega (arith, mapped_places bs))

-- Links without a fault are sound.
pub well_formed : (bs : List ℕ) → ((i : ℕ) → get_or bs i 0 < 256) → first (link_fault bs) 0 (link_count bs) ≡ None → AllSound (mapped bs)
well_formed bs fits links k l h =
    let m = link_count bs in
    elim (cases_lt k m) [
      | inl within ↦
          let here : Some (link_at bs m k) ≡ Some l = sym (place_within bs k within) ∙ h in
          let same : link_at bs m k ≡ l = cc in
          let none = as_none _ (first_none (link_fault bs) 0 m links k (omega arith) (omega arith)) in
          subst (Sound (node_count bs)) same (sound_unless (node_count bs) k (link_at bs m k) none (number_fits bs fits _) (number_fits bs fits _)).1
      | inr past ↦
          let none : None ≡ Some l = sym (place_past bs k past) ∙ h in
          grind arith
    ]

pub no_size_fault : (bs : List ℕ) → map_fault bs ≡ None → size_fault bs ≡ None
no_size_fault bs e = (option_or_none (size_fault bs) _ e).0
