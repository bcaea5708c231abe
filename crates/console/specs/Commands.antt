-- Commands as they are printed, and lines that spell one.
use Rattle.std.specs.Prelude.{◌≡◌, ℕ, ◌<◌, ◌≤◌, true, List, [], ◌∷◌, ◌++◌, length, codes, decimal}
use Rattle.console.specs.declared.command.Command.{Command}
use Rattle.console.specs.declared.command.Command.TheVariants.{Plan, Guarantee, Route, Backup, Withdraw, Restore, TraceLink, TraceGroup}
use Rattle.console.specs.Words.{words, is_digits, number_of}

-- A space, and the number.
abbrev pub field : ℕ → List ℕ
field n = 32 ∷ decimal n

-- The bytes of a command: its letter and its numbers.
abbrev pub printed : Command → List ℕ
printed (Plan t) = codes "P" ++ field t
printed (Guarantee u) = codes "G" ++ field u
printed (Route u) = codes "R" ++ field u
printed (Backup u) = codes "B" ++ field u
printed (Withdraw k) = codes "W" ++ field k
printed (Restore k) = codes "M" ++ field k
printed (TraceLink u k) = codes "L" ++ (field u ++ field k)
printed (TraceGroup u b) = codes "S" ++ (field u ++ field b)

-- Its numbers fit 16 bits.
abbrev pub SixteenBits : Command → Type 0
SixteenBits (Plan t) = t < 65536
SixteenBits (Guarantee u) = u < 65536
SixteenBits (Route u) = u < 65536
SixteenBits (Backup u) = u < 65536
SixteenBits (Withdraw k) = k < 65536
SixteenBits (Restore k) = k < 65536
SixteenBits (TraceLink u k) = (u < 65536) × (k < 65536)
SixteenBits (TraceGroup u b) = (u < 65536) × (b < 65536)

-- The word is digits that write n; leading zeros are let pass.
pub record Numeral (w : List ℕ) (n : ℕ) : Type 0 where
  pub digits : is_digits w ≡ true
  pub value : number_of 0 w ≡ n
  pub small : n < 65536

-- The words are a letter and a numeral, and nothing more.
pub record OneNumber (letter : List ℕ) (n : ℕ) (ws : List (List ℕ)) : Type 0 where
  pub word : List ℕ
  pub all : ws ≡ letter ∷ (word ∷ [])
  pub numeral : Numeral word n

-- The words are a letter and two numerals, and nothing more.
pub record TwoNumbers (letter : List ℕ) (n m : ℕ) (ws : List (List ℕ)) : Type 0 where
  pub first : List ℕ
  pub second : List ℕ
  pub all : ws ≡ letter ∷ (first ∷ (second ∷ []))
  pub numeral : Numeral first n
  pub numeral_2 : Numeral second m

abbrev pub Spelled : Command → List (List ℕ) → Type 0
Spelled (Plan t) = OneNumber (codes "P") t
Spelled (Guarantee u) = OneNumber (codes "G") u
Spelled (Route u) = OneNumber (codes "R") u
Spelled (Backup u) = OneNumber (codes "B") u
Spelled (Withdraw k) = OneNumber (codes "W") k
Spelled (Restore k) = OneNumber (codes "M") k
Spelled (TraceLink u k) = TwoNumbers (codes "L") u k
Spelled (TraceGroup u b) = TwoNumbers (codes "S") u b

-- The line spells the command: at most 64 bytes, whose words are its letter and its numbers.
abbrev pub Spells : List ℕ → Command → Type 0
Spells line c = (length line ≤ 64) × Spelled c (words line)
