-- Bytes that come one after another, and the lines that they make.
use Rattle.std.proofs.Common.{◌≡◌, ℕ, ◌+◌, ◌<◌, ◌≤◌, Bool, List, [], ◌∷◌, ◌++◌, ◌≢◌, length, take, drop, get_or, Some, None, Option, sym, refl, ap, ◌∙◌, subst, ⊎_elim, append_assoc, append-nil, arith, length-append, length-take}
use lib.Seq.{take-append-le}
use Rattle.std.specs.List.{flat_map}
use Rattle.std.specs.Option.{unwrap_or}
use Rattle.std.proofs.lemmas.List.{take_all, flat_map_more, take-append-drop, drop_more}
use Rattle.std.proofs.lemmas.List.Elements.{All-nil, All-append, All-push}
use Rattle.std.proofs.lemmas.Bool.{cases_lt}
use Rattle.lines.specs.Dialogues.{kept_of, Turn, Dialogue, Fed, Leads, Completes}
use Rattle.lines.specs.Lines.{Unbroken, broken_off, Cut, LinesOf, TheLines, last_line}
use Rattle.lines.proofs.OneCut.{one_lines}

-- The bytes that are kept; none are before the first byte.
abbrev pub held : Option (List ℕ) → List ℕ
held feed = unwrap_or feed []

kept_more : (bytes rest more : List ℕ) → 0 < length more → kept_of (bytes ++ more) rest ≡ Some (take 65 rest)
kept_more [] rest [] some = absurd (omega arith)
kept_more [] rest (b ∷ more) some = refl
kept_more (c ∷ bytes) rest more some = refl

-- Bytes of which none is byte 10 go to the rest.
cut_more : (bytes : List ℕ) (ended : List (List ℕ)) (rest more : List ℕ) → Unbroken more → Cut bytes ended rest → Cut (bytes ++ more) ended (rest ++ more)
cut_more bytes ended rest more u C = record {
  whole = ap (λ x. x ++ more) C.whole ∙ append_assoc (flat_map broken_off ended) rest more;
  unbroken = C.unbroken;
  unended = All-append (λ x. x ≢ 10) rest more C.unended u;
}

-- Byte 10 makes the rest a line.
cut_line : (bytes : List ℕ) (ended : List (List ℕ)) (rest : List ℕ) → Cut bytes ended rest → Cut (bytes ++ (10 ∷ [])) (ended ++ (rest ∷ [])) []
cut_line bytes ended rest C = record {
  whole =
      ap (λ x. x ++ (10 ∷ [])) C.whole ∙ append_assoc (flat_map broken_off ended) rest (10 ∷ [])
      ∙ flat_map_more broken_off [] ended rest ∙ sym (append-nil (flat_map broken_off (ended ++ (rest ∷ []))));
  unbroken = All-push Unbroken ended rest C.unbroken C.unended;
  unended = All-nil (λ x. x ≢ 10);
}

-- Of a rest that grows, the first 65 bytes follow from the first 65 before.
front_more : (rest more : List ℕ) → take 65 (take 65 rest ++ more) ≡ take 65 (rest ++ more)
front_more rest more = ⊎_elim short long (cases_lt (length rest) 65)
  where
    short : length rest < 65 → take 65 (take 65 rest ++ more) ≡ take 65 (rest ++ more)
    short h = ap (λ x. take 65 (x ++ more)) (take_all 65 rest (omega arith))

    long : 65 ≤ length rest → take 65 (take 65 rest ++ more) ≡ take 65 (rest ++ more)
    long h =
        let full : 65 ≤ length (take 65 rest) = simp length-take (omega arith) in
        let no_more : length (take 65 rest) ≤ 65 = simp length-take (omega arith) in
        take-append-le 65 (take 65 rest) more full ∙ take_all 65 (take 65 rest) no_more ∙ sym (take-append-le 65 rest more h)

none_left : (xs ys : List ℕ) → [] ≡ xs ++ ys → ys ≡ []
none_left xs [] e = refl
none_left xs (y ∷ ys) e = absurd (omega (arith, ap length e, length-append xs (y ∷ ys)))

-- What is kept are the first 65 bytes of the line that has not ended.
held_is : (feed : Option (List ℕ)) (bytes : List ℕ) (ended : List (List ℕ)) (rest : List ℕ) → Cut bytes ended rest → feed ≡ kept_of bytes rest → held feed ≡ take 65 rest
held_is feed [] ended rest C e = ap (λ x. unwrap_or x []) e ∙ sym (ap (take 65) (none_left (flat_map broken_off ended) rest C.whole) ∙ take_all 65 [] (omega arith))
held_is feed (b ∷ bytes) ended rest C e = ap (λ x. unwrap_or x []) e

-- The same with more bytes of that line.
held_more : (feed : Option (List ℕ)) (bytes : List ℕ) (ended : List (List ℕ)) (rest more : List ℕ) → Cut bytes ended rest → feed ≡ kept_of bytes rest → take 65 (held feed ++ more) ≡ take 65 (rest ++ more)
held_more feed bytes ended rest more C e = ap (λ x. take 65 (x ++ more)) (held_is feed bytes ended rest C e) ∙ front_more rest more

-- There is no last line where bytes have come and none is kept.
no_last : (bytes rest : List ℕ) → kept_of bytes rest ≡ Some [] → last_line bytes rest ≡ []
no_last [] rest e = absurd (cc)
no_last (b ∷ bytes) [] e = refl
no_last (b ∷ bytes) (c ∷ rest) e =
    let some : 0 < length (take 65 (c ∷ rest)) = simp length-take (omega arith) in
    let none : take 65 (c ∷ rest) ≡ [] = cc in
    absurd (omega (arith, some, ap length none))

-- What is kept is the last line, unless bytes have come and none is kept.
one_last : (bytes : List ℕ) (ended : List (List ℕ)) (rest : List ℕ) → Cut bytes ended rest → (kept_of bytes rest ≡ Some [] → ⊥) → last_line bytes rest ≡ rest ∷ []
one_last [] ended rest C n = ap (λ x. x ∷ []) (sym (none_left (flat_map broken_off ended) rest C.whole))
one_last (b ∷ bytes) ended [] C n = absurd (n (ap Some (take_all 65 [] (omega arith))))
one_last (b ∷ bytes) ended (c ∷ rest) C n = refl

the_lines : (bytes : List ℕ) (lines : List (List ℕ)) → LinesOf bytes lines → TheLines bytes lines
the_lines bytes lines A = (A, λ others B. one_lines bytes lines others A B)

-- A line that ends in the rest of a piece is taken off the rest.
pub taken_more : (piece taken rest : List ℕ) (end : ℕ) → piece ≡ taken ++ rest → end < length rest → get_or rest end 0 ≡ 10 → piece ≡ (taken ++ broken_off (take end rest)) ++ drop (end + 1) rest
taken_more piece taken rest end e inside ten =
    let later = drop (end + 1) rest in
    let parts : rest ≡ take end rest ++ (10 ∷ later) = sym (take-append-drop end rest) ∙ ap (λ l. take end rest ++ l) (drop_more rest end 0 inside ∙ ap (λ b. b ∷ later) ten) in
    e ∙ ap (λ l. taken ++ l) (parts ∙ sym (append_assoc (take end rest) (10 ∷ []) later)) ∙ sym (append_assoc taken (broken_off (take end rest)) later)

module _ {S : Type 0} (answers : S → List ℕ → S → List ℕ → Type 0) (ended : S → Bool) where
  -- One line more is answered at the end.
  turn_more : (lines : List (List ℕ)) (s m t : S) (line said more : List ℕ) → Dialogue answers ended lines s m said → Turn answers ended m line t more → Dialogue answers ended (lines ++ (line ∷ [])) s t (said ++ more)
  turn_more [] s m t line said more (e, n) turn =
      (t, more, [], subst (λ x. Turn answers ended x line t more) e turn, (refl, refl), ap (λ x. x ++ more) n ∙ sym (append-nil more))
  turn_more (l ∷ lines) s m t line said more (k, first, next, begins, d, e) turn =
      (k, first, next ++ more, begins, turn_more lines k m t line next more d turn, ap (λ x. x ++ more) e ∙ append_assoc first next more)

  pub leads_none : (feed : Option (List ℕ)) (t : S) → Leads answers ended feed t [] feed t []
  leads_none feed t s bytes earlier F =
      subst (λ x. Fed answers ended s x feed t (earlier ++ [])) (sym (append-nil bytes)) (subst (λ x. Fed answers ended s bytes feed t x) (sym (append-nil earlier)) F)

  pub leads_on : (f g h : Option (List ℕ)) (t u v : S) (p q said more : List ℕ) → Leads answers ended f t p g u said → Leads answers ended g u q h v more → Leads answers ended f t (p ++ q) h v (said ++ more)
  leads_on f g h t u v p q said more A B s bytes earlier F =
      subst (λ x. Fed answers ended s x h v (earlier ++ (said ++ more))) (append_assoc bytes p q)
      (subst (λ x. Fed answers ended s ((bytes ++ p) ++ q) h v x) (append_assoc earlier said more)
      (B s (bytes ++ p) (earlier ++ said) (A s bytes earlier F)))

  -- Bytes of which none ends a line are kept, as far as they matter.
  pub leads_kept : (f g : Option (List ℕ)) (t : S) (more : List ℕ) → Unbroken more → (more ≡ [] → g ≡ f) → (0 < length more → g ≡ Some (take 65 (held f ++ more))) → Leads answers ended f t more g t []
  leads_kept f g t [] u none some = subst (λ x. Leads answers ended f t [] x t []) (sym (none refl)) (leads_none f t)
  leads_kept f g t (b ∷ more) u none some =
      let any : 0 < length (b ∷ more) = omega arith in λ s bytes earlier F.
      record {
        lines = F.lines;
        rest = F.rest ++ (b ∷ more);
        cut = cut_more bytes F.lines F.rest (b ∷ more) u F.cut;
        dialogue = subst (λ x. Dialogue answers ended F.lines s t x) (sym (append-nil earlier)) F.dialogue;
        kept =
            some any ∙ ap Some (held_more f bytes F.lines F.rest (b ∷ more) F.cut F.kept)
            ∙ sym (kept_more bytes (F.rest ++ (b ∷ more)) (b ∷ more) any);
      }

  module _ (short : (s t : S) (line said : List ℕ) → answers s (take 65 line) t said → answers s line t said) where
    -- The kept bytes speak for the whole line.
    turn_whole : (s t : S) (line kept said : List ℕ) → kept ≡ take 65 line → Turn answers ended s kept t said → Turn answers ended s line t said
    turn_whole s t line kept said e T = record { over = T.over; answered = λ h. short s t line said (subst (λ x. answers s x t said) e (T.answered h)) }

    -- The last bytes of a line and the byte 10 that ends it have it answered.
    pub leads_line : (f g : Option (List ℕ)) (t u : S) (more line said : List ℕ) → Unbroken more → line ≡ take 65 (held f ++ more) → Turn answers ended t line u said → g ≡ Some [] → Leads answers ended f t (broken_off more) g u said
    leads_line f g t u more line said unbroken e T cleared s bytes earlier F =
        let cut : Cut (bytes ++ more) F.lines (F.rest ++ more) = cut_more bytes F.lines F.rest more unbroken F.cut in
        let any : 0 < length (broken_off more) = simp length-append (omega arith) in
        record {
          lines = F.lines ++ ((F.rest ++ more) ∷ []);
          rest = [];
          cut = subst (λ x. Cut x (F.lines ++ ((F.rest ++ more) ∷ [])) []) (append_assoc bytes more (10 ∷ [])) (cut_line (bytes ++ more) F.lines (F.rest ++ more) cut);
          dialogue =
              turn_more F.lines s t u (F.rest ++ more) earlier said F.dialogue
              (turn_whole t u (F.rest ++ more) line said (e ∙ held_more f bytes F.lines F.rest more F.cut F.kept) T);
          kept = cleared ∙ ap Some (sym (take_all 65 [] (omega arith))) ∙ sym (kept_more bytes [] (broken_off more) any);
        }

    pub completes_last : (f : Option (List ℕ)) (t u : S) (line said : List ℕ) → (f ≡ Some [] → ⊥) → line ≡ held f → Turn answers ended t line u said → Completes answers ended f t u said
    completes_last f t u line said n e T s bytes earlier F =
        let one : last_line bytes F.rest ≡ F.rest ∷ [] = one_last bytes F.lines F.rest F.cut (λ k. n (F.kept ∙ k)) in (
          F.lines ++ (F.rest ∷ []),
          the_lines bytes _ (record { ended = F.lines; rest = F.rest; cut = F.cut; all = ap (λ x. F.lines ++ x) (sym one) }),
          turn_more F.lines s t u F.rest earlier said F.dialogue (turn_whole t u F.rest line said (e ∙ held_is f bytes F.lines F.rest F.cut F.kept) T),
        )

  pub completes_none : (f : Option (List ℕ)) (t : S) → f ≡ Some [] → Completes answers ended f t t []
  completes_none f t empty s bytes earlier F =
      let none : last_line bytes F.rest ≡ [] = no_last bytes F.rest (sym F.kept ∙ empty) in (
        F.lines,
        the_lines bytes _ (record { ended = F.lines; rest = F.rest; cut = F.cut; all = sym (append-nil F.lines) ∙ ap (λ x. F.lines ++ x) (sym none) }),
        subst (λ x. Dialogue answers ended F.lines s t x) (sym (append-nil earlier)) F.dialogue,
      )

  pub fed_none : (f : Option (List ℕ)) (s : S) → f ≡ None → Fed answers ended s [] f s []
  fed_none f s none = record {
    lines = [];
    rest = [];
    cut = record { whole = refl; unbroken = All-nil Unbroken; unended = All-nil (λ x. x ≢ 10) };
    dialogue = (refl, refl);
    kept = none;
  }
