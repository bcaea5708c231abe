-- One write after another, and entries of one length written in a row.
use Rattle.std.proofs.Common.{◌≡◌, ℕ, zero, suc, ◌+◌, ◌*◌, ◌<◌, ◌≤◌, List, [], ◌∷◌, ◌++◌, length, get_or, take, drop, Some, None, Option, sym, refl, ap, ◌∙◌, mul-zero, mul-suc, arith}
use lib.Seq.{paste}
use Rattle.std.specs.List.{flat_map}
use Rattle.std.proofs.lemmas.List.Edits.{paste-paste, paste_all}
use Rattle.std.proofs.lemmas.List.{flat_map_more, take_more, length-append, length-take-le, drop-drop, drop_at}
use Rattle.definitions.specs.declared.Link.{Link}
use Rattle.definitions.specs.Networks.{Net}
use Rattle.maps.specs.Writes.{sizes, ends, attributes, link_of, entries, map_bytes, map_length}

-- A second write, right behind the first, is one with it.
pub paste_two : (d e f s t : List ℕ) (at j n m : ℕ) → e ≡ paste d at s n → f ≡ paste e j t m → j ≡ at + n → n ≡ length s → m ≡ length t → at ≤ length d → f ≡ paste d at (s ++ t) (n + m)
paste_two d e f s t at j n m p q place first second fits =
    q ∙ ap (λ i. paste e i t m) place ∙ ap (λ x. paste x (at + n) t m) p ∙ paste-paste d at s t n m first second fits

module _ (entry : Link → List ℕ) (c : ℕ) (each : (l : Link) → length (entry l) ≡ c) where
  -- Entries of c bytes each.
  pub length_entries : (ps : List (Option Link)) → length (entries entry ps) ≡ c * length ps
  length_entries [] = sym (mul-zero c)
  length_entries (p ∷ ps) =
      grind (arith, length-append, each (link_of p), length_entries ps, mul-suc c (length ps))

  pub drop_entries : (k : ℕ) (ps : List (Option Link)) → k ≤ length ps → drop (c * k) (entries entry ps) ≡ entries entry (drop k ps)
  drop_entries zero ps h = ap (λ n. drop n (entries entry ps)) (mul-zero c)
  drop_entries (suc k) [] h = absurd (omega arith)
  drop_entries (suc k) (p ∷ ps) h =
      let size : c * suc k ≡ c + c * k = omega (arith, mul-suc c k) in
      ap (λ n. drop n (entry (link_of p) ++ entries entry ps)) size
      ∙ sym (drop-drop (c * k) c (entry (link_of p) ++ entries entry ps))
      ∙ ap (drop (c * k)) (drop_at (entry (link_of p)) (entries entry ps) c (each (link_of p)))
      ∙ drop_entries k ps (omega arith)

  -- One more entry behind those of the first k places.
  pub paste_entry : (ps : List (Option Link)) (d e e' e'' bytes : List ℕ) (at k : ℕ) (l : Link) → k < length ps → at ≤ length d → e ≡ paste d at (entries entry (take k ps)) (c * k) → Some l ≡ get_or ps k None → bytes ≡ entry l → e' ≡ paste e (at + c * k) bytes (length bytes) → e'' ≡ e' → e'' ≡ paste d at (entries entry (take (k + 1) ps)) (c * (k + 1))
  paste_entry ps d e e' e'' bytes at k l h fits before here made wrote same =
      let f : Option Link → List ℕ = λ p. entry (link_of p) in
      let long : c * k ≡ length (entries entry (take k ps)) = ap (λ n. c * n) (sym (length-take-le k ps (omega arith))) ∙ sym (length_entries (take k ps)) in
      let size : c * k + length bytes ≡ c * (k + 1) = omega (arith, mul-suc c k, each l, ap length made) in
      same
      ∙ paste_two d e e' (entries entry (take k ps)) bytes at _ (c * k) (length bytes) before wrote refl long refl fits
      ∙ ap (λ s. paste d at s (c * k + length bytes)) (ap (λ b. entries entry (take k ps) ++ b) (made ∙ ap f here) ∙ flat_map_more f [] (take k ps) (get_or ps k None) ∙ ap (flat_map f) (sym (take_more ps k None h)))
      ∙ ap (paste d at (entries entry (take (k + 1) ps))) size

-- The sizes and the two arrays, written in turn, are the map.
pub all_written : (n : Net) (d a b e head : List ℕ) (at len : ℕ) → head ≡ sizes n → a ≡ paste d 0 head (length head) → b ≡ paste a 4 (entries ends n.places) (4 * length n.places) → e ≡ paste b at (entries attributes n.places) (8 * length n.places) → at ≡ 4 + 4 * length n.places → len ≡ map_length n → e ≡ map_bytes n ++ drop len d
all_written n d a b e head at len is first second third behind long =
    let m = length n.places in
    let E = entries ends n.places in
    let L = entries attributes n.places in
    let e_long : length E ≡ 4 * m = length_entries ends 4 (λ _. refl) n.places in
    let l_long : length L ≡ 8 * m = length_entries attributes 8 (λ _. refl) n.places in
    let one : a ≡ paste d 0 (sizes n) 4 = first ∙ ap (λ s. paste d 0 s (length s)) is in
    let two = paste_two d a b (sizes n) E 0 4 4 (4 * m) one second refl refl (sym e_long) (omega arith) in
    let three = paste_two d b e (sizes n ++ E) L 0 at (4 + 4 * m) (8 * m) two third (omega arith) (omega arith) (sym l_long) (omega arith) in
    let size : 4 + 4 * m + 8 * m ≡ length ((sizes n ++ E) ++ L) = omega (arith, length-append E L) in
    let end : 0 + (4 + 4 * m + 8 * m) ≡ len = omega arith in
    three ∙ paste_all d 0 ((sizes n ++ E) ++ L) (4 + 4 * m + 8 * m) size ∙ ap (λ k. map_bytes n ++ drop k d) end
