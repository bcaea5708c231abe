-- What the words of a line say, or the first of them that is bad.
use Rattle.std.specs.Prelude.{ℕ, ◌+◌, cond, List, [], ◌∷◌, length, Ok, Err, Result, ◌==◌, nat_le, nat_lt}
use Rattle.std.specs.Char.{is_ascii_alphabetic}
use Rattle.console.specs.declared.command.Command.{Command}
use Rattle.console.specs.declared.command.Command.TheVariants.{Plan, Guarantee, Route, Backup, Withdraw, Restore, TraceLink, TraceGroup}
use Rattle.console.specs.declared.command.LineFault.{LineFault}
use Rattle.console.specs.declared.command.LineFault.TheVariants.{BadWord, TooLarge}
use Rattle.console.specs.Words.{words, is_digits, number_of}

-- The first fault decides: f is asked only where there is none.
abbrev pub bind : {A B E : Type 0} → Result A E → (A → Result B E) → Result B E
bind (Ok x) f = f x
bind (Err e) f = Err e

abbrev pub tail : List (List ℕ) → List (List ℕ)
tail [] = []
tail (w ∷ ws) = ws

-- Where the second word starts, if the first starts at byte `at`.
abbrev pub after : ℕ → List (List ℕ) → ℕ
after at [] = at
after at (w ∷ ws) = at + length w + 1

-- The first word is to be a letter.
abbrev pub letter_at : ℕ → List (List ℕ) → Result ℕ LineFault
letter_at at ((b ∷ []) ∷ ws) = cond (is_ascii_alphabetic b) (Ok b) (Err (BadWord at))
letter_at at ((b ∷ c ∷ w) ∷ ws) = Err (BadWord at)
letter_at at ([] ∷ ws) = Err (BadWord at)
letter_at at [] = Err (BadWord at)

-- The first word is to be a number of at most 65,535.
abbrev pub number_at : ℕ → List (List ℕ) → Result ℕ LineFault
number_at at [] = Err (BadWord at)
number_at at (w ∷ ws) = cond (is_digits w) (cond (nat_le (number_of 0 w) 65535) (Ok (number_of 0 w)) (Err (TooLarge at))) (Err (BadWord at))

-- No word is to follow.
abbrev pub end_at : {A : Type 0} → A → ℕ → List (List ℕ) → Result A LineFault
end_at x at [] = Ok x
end_at x at (w ∷ ws) = Err (BadWord at)

-- One number, and no word after it.
abbrev pub last_number : ℕ → List (List ℕ) → Result ℕ LineFault
last_number at ws = bind (number_at at ws) (λ n. end_at n (after at ws) (tail ws))

-- A command of one number, and of two.
abbrev pub one : (ℕ → Command) → ℕ → List (List ℕ) → Result Command LineFault
one f at ws = bind (last_number at ws) (λ n. Ok (f n))

abbrev pub two : (ℕ → ℕ → Command) → ℕ → List (List ℕ) → Result Command LineFault
two f at ws = bind (number_at at ws) (λ n. one (f n) (after at ws) (tail ws))

-- What follows the letter b: P, G, R, B, W and M take one number, L and S take two.
abbrev pub asked : ℕ → ℕ → List (List ℕ) → Result Command LineFault
asked b at ws =
    cond (b == 80) (one Plan at ws)
    (cond (b == 71) (one Guarantee at ws)
    (cond (b == 82) (one Route at ws)
    (cond (b == 66) (one Backup at ws)
    (cond (b == 87) (one Withdraw at ws)
    (cond (b == 77) (one Restore at ws)
    (cond (b == 76) (two TraceLink at ws)
    (cond (b == 83) (two TraceGroup at ws)
    (Err (BadWord 0)))))))))

abbrev pub sentence : List (List ℕ) → Result Command LineFault
sentence ws = bind (letter_at 0 ws) (λ b. asked b (after 0 ws) (tail ws))

-- The command that a line gives, or the fault of the first bad word.
abbrev pub reading : List ℕ → Result Command LineFault
reading line = cond (nat_lt 64 (length line)) (Err (BadWord 64)) (sentence (words line))
