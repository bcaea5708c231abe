-- A printed command reads as itself.
use Rattle.std.proofs.Common.{◌≡◌, ℕ, ◌+◌, ◌^◌, ◌<◌, ◌≤◌, true, ltb, leb, List, [], ◌∷◌, ◌++◌, length, get_or, take, Ok, Err, decimal, sym, refl, ap, ◌∙◌, ⊎_elim, arith, length-append, length-take, rules}
use Rattle.std.specs.Str.{all_ascii_digits}
use Rattle.std.proofs.lemmas.Fmt.{digits_decimal, digits_value-decimal, decimal_nonempty, length-decimal-le}
use Rattle.std.proofs.lemmas.List.{take_all}
use Rattle.std.proofs.lemmas.Str.Parse.{IsNumeralModel, numerals_by_fold, tells_all_ascii_digits, not_in_digits}
use Rattle.std.proofs.lemmas.Bool.{lt-ltb, le-ltb, le-leb, cond-true, cond-false, cases_lt, and_from}
use Rattle.console.specs.declared.command.Command.{Command}
use Rattle.console.specs.declared.command.Command.TheVariants.{Plan, Guarantee, Route, Backup, Withdraw, Restore, TraceLink, TraceGroup}
use Rattle.console.specs.declared.command.LineFault.TheVariants.{BadWord}
use Rattle.console.specs.Grammar.{number_at, last_number, one, two, sentence, reading}
use Rattle.console.specs.Words.{words, is_digits, number_of}
use Rattle.console.specs.Commands.{field, printed, SixteenBits}
use Rattle.console.proofs.WordLaws.{words_last, words_more}

own : IsNumeralModel (λ ds. all_ascii_digits ds ≡ true) (number_of 0)
own = numerals_by_fold _ tells_all_ascii_digits number_of (search rules)

fits : (n : ℕ) → n < 65536 → n < 2 ^ 64
fits n h = omega arith

no_space : (n : ℕ) → n < 65536 → (k : ℕ) → k < length (decimal n) → get_or (decimal n) k 0 ≡ 32 → ⊥
no_space n h = not_in_digits own (decimal n) 32 (digits_decimal own n (fits n h)) (λ d. omega arith)

number_back : (at n : ℕ) (ws : List (List ℕ)) → n < 65536 → number_at at (decimal n ∷ ws) ≡ Ok n
number_back at n ws h =
    let v = digits_value-decimal own n (fits n h) in
    let d : is_digits (decimal n) ≡ true = and_from _ _ (lt-ltb 0 (length (decimal n)) (decimal_nonempty n (fits n h))) (digits_decimal own n (fits n h)) in
    cond-true (is_digits (decimal n)) _ _ d ∙ cond-true (leb (number_of 0 (decimal n)) 65535) _ _ (le-leb _ 65535 (omega arith)) ∙ ap Ok v

short : (n : ℕ) → n < 65536 → length (decimal n) ≤ 5
short n h = length-decimal-le 5 n (omega arith) (omega arith) (fits n h)

-- a line that is not too long is read word by word
by_words : (bs : List ℕ) → length bs ≤ 64 → reading bs ≡ sentence (words bs)
by_words bs h = cond-false (ltb 64 (length bs)) _ _ (le-ltb 64 (length bs) h)

last_back : (at n : ℕ) → n < 65536 → last_number at (decimal n ∷ []) ≡ Ok n
last_back at n h = rw (number_back at n [] h)

one_back : (f : ℕ → Command) (at n : ℕ) → n < 65536 → one f at (decimal n ∷ []) ≡ Ok (f n)
one_back f at n h = rw (last_back at n h)

two_back : (f : ℕ → ℕ → Command) (at n m : ℕ) → n < 65536 → m < 65536 → two f at (decimal n ∷ (decimal m ∷ [])) ≡ Ok (f n m)
two_back f at n m h g = rw (number_back at n (decimal m ∷ []) h, one_back (f n) (at + length (decimal n) + 1) m g)

-- the letter b stands for f
module _ (b : ℕ) (letter : (w : List ℕ) → words (b ∷ (32 ∷ w)) ≡ (b ∷ []) ∷ words w) where
  pub back_one : (f : ℕ → Command) → ((ws : List (List ℕ)) → sentence ((b ∷ []) ∷ ws) ≡ one f 2 ws) → (n : ℕ) → n < 65536 → reading (b ∷ field n) ≡ Ok (f n)
  back_one f says n h =
      by_words (b ∷ field n) (omega (arith, short n h))
      ∙ ap sentence (letter (decimal n) ∙ ap (λ l. (b ∷ []) ∷ l) (words_last (decimal n) (no_space n h)))
      ∙ says (decimal n ∷ []) ∙ one_back f 2 n h

  pub back_two : (f : ℕ → ℕ → Command) → ((ws : List (List ℕ)) → sentence ((b ∷ []) ∷ ws) ≡ two f 2 ws) → (n m : ℕ) → n < 65536 → m < 65536 → reading (b ∷ (field n ++ field m)) ≡ Ok (f n m)
  back_two f says n m h g =
      by_words (b ∷ (field n ++ field m)) (omega (arith, short n h, short m g, length-append (decimal n) (field m)))
      ∙ ap sentence (letter (decimal n ++ field m) ∙ ap (λ l. (b ∷ []) ∷ l) (words_more (decimal n) (decimal m) (no_space n h) ∙ ap (λ l. decimal n ∷ l) (words_last (decimal m) (no_space m g))))
      ∙ says (decimal n ∷ (decimal m ∷ [])) ∙ two_back f 2 n m h g

pub reads_back : (c : Command) → SixteenBits c → reading (printed c) ≡ Ok c
reads_back (Plan t) h = back_one 80 (λ w. refl) Plan (λ ws. refl) t h
reads_back (Guarantee u) h = back_one 71 (λ w. refl) Guarantee (λ ws. refl) u h
reads_back (Route u) h = back_one 82 (λ w. refl) Route (λ ws. refl) u h
reads_back (Backup u) h = back_one 66 (λ w. refl) Backup (λ ws. refl) u h
reads_back (Withdraw k) h = back_one 87 (λ w. refl) Withdraw (λ ws. refl) k h
reads_back (Restore k) h = back_one 77 (λ w. refl) Restore (λ ws. refl) k h
reads_back (TraceLink u k) h = back_two 76 (λ w. refl) TraceLink (λ ws. refl) u k h.0 h.1
reads_back (TraceGroup u k) h = back_two 83 (λ w. refl) TraceGroup (λ ws. refl) u k h.0 h.1

too_long : (bs : List ℕ) → 64 < length bs → reading bs ≡ Err (BadWord 64)
too_long bs h = cond-true (ltb 64 (length bs)) _ _ (lt-ltb 64 (length bs) h)

pub first_bytes : (bs : List ℕ) → reading (take 65 bs) ≡ reading bs
first_bytes bs = ⊎_elim short_line long_line (cases_lt (length bs) 66)
  where
    short_line : length bs < 66 → reading (take 65 bs) ≡ reading bs
    short_line h = ap reading (take_all 65 bs (omega arith))

    long_line : 66 ≤ length bs → reading (take 65 bs) ≡ reading bs
    long_line h = too_long (take 65 bs) (simp length-take (omega arith)) ∙ sym (too_long bs (omega arith))
