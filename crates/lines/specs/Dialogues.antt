-- What a responder says to lines. `answers s line t said`: to this line it goes from s to t, and says these bytes.
-- `ended s`: in s it looks at no line any more.
use Rattle.std.specs.Prelude.{◌≡◌, ℕ, Bool, true, false, List, [], ◌∷◌, ◌++◌, take, Some, None, Option}
use Rattle.lines.specs.Lines.{Cut, TheLines}

-- Bytes that P holds of were added.
abbrev pub Added : List ℕ → List ℕ → (List ℕ → Type 0) → Type 0
Added before after P = (said : List ℕ) × (after ≡ before ++ said) × P said

-- What a feed keeps where these bytes have come, of which `rest` is the line that has not ended: nothing before the first byte.
abbrev pub kept_of : List ℕ → List ℕ → Option (List ℕ)
kept_of [] rest = None
kept_of (b ∷ bytes) rest = Some (take 65 rest)

module _ {S : Type 0} (answers : S → List ℕ → S → List ℕ → Type 0) (ended : S → Bool) where
  -- One line is answered, unless the responder has ended.
  pub record Turn (s : S) (line : List ℕ) (t : S) (said : List ℕ) : Type 0 where
    pub over : ended s ≡ true → (t ≡ s) × (said ≡ [])
    pub answered : ended s ≡ false → answers s line t said

  -- The lines are answered one after another.
  abbrev pub Dialogue : List (List ℕ) → S → S → List ℕ → Type 0
  Dialogue [] s t said = (t ≡ s) × (said ≡ [])
  Dialogue (line ∷ lines) s t said =
      (m : S) × (first : List ℕ) × (then : List ℕ) × Turn s line m first × Dialogue lines m t then × (said ≡ first ++ then)

  -- A responder that began in s is in t and has said `said`, after all bytes so far: it has answered the lines that have ended, and the
  -- first 65 bytes of the line that has not are kept.
  pub record Fed (s : S) (bytes : List ℕ) (feed : Option (List ℕ)) (t : S) (said : List ℕ) : Type 0 where
    pub lines : List (List ℕ)
    pub rest : List ℕ
    pub cut : Cut bytes lines rest
    pub dialogue : Dialogue lines s t said
    pub kept : feed ≡ kept_of bytes rest

  -- Whatever bytes led here, they and the piece lead on, with what was said added.
  abbrev pub Leads : Option (List ℕ) → S → List ℕ → Option (List ℕ) → S → List ℕ → Type 0
  Leads feed t piece feed' t' said = (s : S) (bytes earlier : List ℕ) → Fed s bytes feed t earlier → Fed s (bytes ++ piece) feed' t' (earlier ++ said)

  -- Whatever bytes led here, what was said with the last bytes are the answers to all lines of the whole input.
  abbrev pub Completes : Option (List ℕ) → S → S → List ℕ → Type 0
  Completes feed t t' said =
      (s : S) (bytes earlier : List ℕ) → Fed s bytes feed t earlier →
      (lines : List (List ℕ)) × TheLines bytes lines × Dialogue lines s t' (earlier ++ said)
