-- A line as words, and words as numbers.
use Rattle.std.specs.Prelude.{◌≡◌, ℕ, ◌+◌, ◌-◌, ◌*◌, Bool, true, false, cond, ◌&&◌, List, [], ◌∷◌, length, Some, None, Option, ◌==◌, nat_lt}
use Rattle.std.specs.Char.{is_ascii_alphabetic}
use Rattle.std.specs.Str.{all_ascii_digits}
use Rattle.console.specs.declared.token.Token.{Token}
use Rattle.console.specs.declared.token.Token.TheVariants.{Letter, Number, Other}

-- Byte b before the first word.
abbrev pub begun : ℕ → List (List ℕ) → List (List ℕ)
begun b [] = (b ∷ []) ∷ []
begun b (w ∷ ws) = (b ∷ w) ∷ ws

-- The words of a line: every space parts two, so an empty line is one empty word.
abbrev pub words : List ℕ → List (List ℕ)
words [] = [] ∷ []
words (b ∷ bs) = cond (b == 32) ([] ∷ words bs) (begun b (words bs))

-- One letter, A to Z or a to z.
abbrev pub is_letter : List ℕ → Bool
is_letter [] = false
is_letter (b ∷ []) = is_ascii_alphabetic b
is_letter (b ∷ c ∷ bs) = false

-- One digit or more, and nothing else.
abbrev pub is_digits : List ℕ → Bool
is_digits w = nat_lt 0 (length w) && all_ascii_digits w

-- The number that the digits ds write after those of n.
abbrev pub number_of : ℕ → List ℕ → ℕ
number_of n [] = n
number_of n (d ∷ ds) = number_of (n * 10 + (d - 48)) ds

-- The number, where it is below a limit.
abbrev pub below : ℕ → ℕ → Option ℕ
below limit n = cond (nat_lt n limit) (Some n) None

-- The bytes of a word.
abbrev pub text : Token → List ℕ
text (Letter b start) = b.now ∷ []
text (Number w start) = w.now
text (Other w start) = w.now

-- The byte where a word starts.
abbrev pub start_of : Token → ℕ
start_of (Letter b start) = start
start_of (Number w start) = start
start_of (Other w start) = start

-- What each kind of word says of its bytes and of its start.
abbrev pub IsKind : Token → ℕ → Type 0
IsKind (Letter b start) at = (start ≡ at) × (is_ascii_alphabetic b.now ≡ true)
IsKind (Number w start) at = (start ≡ at) × (is_digits w.now ≡ true)
IsKind (Other w start) at = (start ≡ at) × (is_letter w.now ≡ false) × (is_digits w.now ≡ false)
