-- The words that are left of a line, and the first of them.
use Rattle.std.specs.Prelude.{◌≡◌, ℕ, List, [], ◌∷◌, Some, None, Option}
use Rattle.std.specs.Borrow.{Bor}
use Rattle.console.specs.declared.token.Token.{Token}
use Rattle.console.specs.declared.words.Words.{Words}
use Rattle.console.specs.Words.{words, text, IsKind}
use Rattle.console.specs.Grammar.{after, tail}

abbrev pub words_in : Option (Bor (List ℕ)) → List (List ℕ)
words_in None = []
words_in (Some r) = words r.now

-- The words that are left.
abbrev pub left : Words → List (List ℕ)
left s = words_in s.rest

-- From s to t one word was passed, if there was one.
pub record Passed (s t : Words) : Type 0 where
  pub rest : left t ≡ tail (left s)
  pub next : t.start ≡ after s.start (left s)

-- The first word that is left, if there is one.
abbrev pub First : Words → Option Token → Type 0
First s None = left s ≡ []
First s (Some word) = (left s ≡ text word ∷ tail (left s)) × IsKind word s.start
