use Rattle.std.proofs.Common.{◌≡◌, ℕ, ◌+◌, ◌<◌, List, ◌∷◌, length, get_or, take, Some, None, Option, arith, rules}
use Rattle.std.specs.Borrow.{Bor}
use Rattle.std.specs.Option.{MatchOption, unwrap_or}
use Rattle.std.specs.Slice.{IsGetRangeResult}
use Rattle.std.proofs.lemmas.List.{take_rest, take_all}
use Rattle.console.specs.Left.{words_in}
use Rattle.console.specs.Words.{words}
use Rattle.console.proofs.WordLaws.{words_last, words_split}
use Rattle.console.proofs.parse.split_word.Goals as goal

-- the first space, if there is one, ends the first word
cut : (xs : List ℕ) (found : Option ℕ) (got : Option (Bor (List ℕ))) → MatchOption found ((k : ℕ) → k < length xs → get_or xs k 0 ≡ 32 → ⊥) (λ i. (i < length xs) × (get_or xs i 0 ≡ 32) × ((k : ℕ) → k < i → get_or xs k 0 ≡ 32 → ⊥)) → IsGetRangeResult xs (unwrap_or found (length xs) + 1) (length xs) got → words xs ≡ take (unwrap_or found (length xs)) xs ∷ words_in got
cut xs None None no_space h = rw (take_all (length xs) xs (omega arith)) (words_last xs no_space)
cut xs None (Some r) no_space h = absurd (omega (arith, h))
cut xs (Some i) None (inside, space, before) h = absurd (omega (arith, h, inside))
cut xs (Some i) (Some r) (inside, space, before) h = search (rules, take_rest, words_split xs i inside space before)

pub returns-clause-words : goal.returns-clause-words
returns-clause-words c =
    let e : c.unwrap_or-end.result ≡ unwrap_or c.position.result (length c.args.rest.now) = search rules in
    rw e (cut c.args.rest.now c.position.result c.get.result (search rules) (search rules))
