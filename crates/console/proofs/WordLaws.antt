-- Laws of words and numbers on a line.
use Rattle.std.proofs.Common.{◌≡◌, ℕ, suc, ◌+◌, ◌-◌, ◌*◌, ◌<◌, ◌≤◌, true, ◌&&◌, eqb, ltb, List, [], ◌∷◌, ◌++◌, length, get_or, get_or-take, take, drop, None, sym, refl, ap, take-append-drop, ◌∙◌, arith, length-take}
use Rattle.std.specs.Char.{is_ascii_digit}
use Rattle.std.specs.Str.{all_ascii_digits}
use Rattle.std.proofs.lemmas.List.{drop_more, at_drop_more}
use Rattle.std.proofs.lemmas.Bool.{ne_eqb, le-ltb, leb-true, and_parts, cond-false}
use Rattle.console.specs.Words.{words, begun, number_of, below}

-- a line with no space is one word
pub words_last : (xs : List ℕ) → ((k : ℕ) → k < length xs → get_or xs k 0 ≡ 32 → ⊥) → words xs ≡ xs ∷ []
words_last [] no_space = refl
words_last (b ∷ bs) no_space =
    cond-false (eqb b 32) _ _ (ne_eqb b 32 (no_space 0 (omega arith)))
    ∙ ap (begun b) (words_last bs (λ k h. no_space (suc k) (omega arith)))

-- a space ends the word before it
pub words_more : (w ts : List ℕ) → ((k : ℕ) → k < length w → get_or w k 0 ≡ 32 → ⊥) → words (w ++ (32 ∷ ts)) ≡ w ∷ words ts
words_more [] ts no_space = refl
words_more (b ∷ w) ts no_space =
    cond-false (eqb b 32) _ _ (ne_eqb b 32 (no_space 0 (omega arith)))
    ∙ ap (begun b) (words_more w ts (λ k h. no_space (suc k) (omega arith)))

-- the first space, at i, ends the first word
pub words_split : (xs : List ℕ) (i : ℕ) → i < length xs → get_or xs i 0 ≡ 32 → ((k : ℕ) → k < i → get_or xs k 0 ≡ 32 → ⊥) → words xs ≡ take i xs ∷ words (drop (i + 1) xs)
words_split xs i inside space before =
    let parts : xs ≡ take i xs ++ (32 ∷ drop (i + 1) xs) = sym (take-append-drop i xs) ∙ ap (λ l. take i xs ++ l) (drop_more xs i 0 inside ∙ ap (λ b. b ∷ drop (i + 1) xs) space) in
    ap words parts ∙ words_more (take i xs) _ (λ k h e. let below : k < i = omega (arith, h, length-take i xs) in before k below (sym (get_or-take i xs k 0 below) ∙ e))

-- digits that follow make a number no smaller
pub number_grows : (n : ℕ) (ds : List ℕ) → n ≤ number_of n ds
number_grows n [] = omega arith
number_grows n (d ∷ ds) = omega (arith, number_grows (n * 10 + (d - 48)) ds)

pub too_large : (top n : ℕ) → top ≤ n → None ≡ below top n
too_large top n h = sym (cond-false (ltb n top) _ _ (le-ltb n top h))

-- one digit more, at i, after those that write n
pub record Turn (ds : List ℕ) (n i : ℕ) : Type 0 where
  pub digit : 48 ≤ get_or ds i 0
  pub rest : all_ascii_digits (drop (i + 1) ds) ≡ true
  pub same : number_of 0 ds ≡ number_of (n * 10 + (get_or ds i 0 - 48)) (drop (i + 1) ds)
  pub least : n * 10 + (get_or ds i 0 - 48) ≤ number_of 0 ds

pub turn : (ds : List ℕ) (n i : ℕ) → i < length ds → number_of 0 ds ≡ number_of n (drop i ds) → all_ascii_digits (drop i ds) ≡ true → Turn ds n i
turn ds n i lt before digits =
    let e : all_ascii_digits (drop i ds) ≡ (is_ascii_digit (get_or ds i 0) && all_ascii_digits (drop (i + 1) ds)) = at_drop_more all_ascii_digits ds i 0 lt in
    let parts = and_parts (is_ascii_digit (get_or ds i 0)) (all_ascii_digits (drop (i + 1) ds)) (sym e ∙ digits) in
    let same : number_of 0 ds ≡ number_of (n * 10 + (get_or ds i 0 - 48)) (drop (i + 1) ds) = before ∙ at_drop_more (number_of n) ds i 0 lt in
    record {
      digit = leb-true _ _ (and_parts _ _ parts.0).0;
      rest = parts.1;
      same = same;
      least = omega (arith, same, number_grows (n * 10 + (get_or ds i 0 - 48)) (drop (i + 1) ds));
    }
