-- Bytes as lines.
use Rattle.std.specs.Prelude.{◌≡◌, ℕ, List, [], ◌∷◌, ◌++◌, ◌≢◌, All}
use Rattle.std.specs.List.{flat_map}

-- No byte is byte 10.
abbrev pub Unbroken : List ℕ → Type 0
Unbroken bytes = All (λ b. b ≢ 10) bytes

-- A line with the byte that ends it.
abbrev pub broken_off : List ℕ → List ℕ
broken_off line = line ++ (10 ∷ [])

-- The bytes are these lines, each ended by a byte 10, and then a rest in which there is none.
pub record Cut (bytes : List ℕ) (ended : List (List ℕ)) (rest : List ℕ) : Type 0 where
  pub whole : bytes ≡ flat_map broken_off ended ++ rest
  pub unbroken : All Unbroken ended
  pub unended : Unbroken rest

-- What stands after the last byte 10 is a line, unless it is empty. An input with no byte counts as one empty line.
abbrev pub last_line : List ℕ → List ℕ → List (List ℕ)
last_line [] rest = [] ∷ []
last_line (b ∷ bs) [] = []
last_line (b ∷ bs) (c ∷ rest) = (c ∷ rest) ∷ []

-- The lines of a whole input.
pub record LinesOf (bytes : List ℕ) (lines : List (List ℕ)) : Type 0 where
  pub ended : List (List ℕ)
  pub rest : List ℕ
  pub cut : Cut bytes ended rest
  pub all : lines ≡ ended ++ last_line bytes rest

-- These are the lines of the input, and no others are.
abbrev pub TheLines : List ℕ → List (List ℕ) → Type 0
TheLines bytes lines = LinesOf bytes lines × ((others : List (List ℕ)) → LinesOf bytes others → others ≡ lines)
