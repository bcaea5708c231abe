-- A line that reads as a command spells it.
use Rattle.std.proofs.Common.{◌≡◌, ℕ, true, eqb, ltb, leb, List, [], ◌∷◌, length, Ok, Err, Result, sym, refl, ap, ◌∙◌, subst, arith}
use Rattle.std.specs.Char.{is_ascii_alphabetic}
use Rattle.std.proofs.lemmas.Bool.{cond_both, eqb-true, leb-true, ltb-false}
use Rattle.console.specs.declared.command.Command.{Command}
use Rattle.console.specs.declared.command.Command.TheVariants.{Plan, Guarantee, Route, Backup, Withdraw, Restore, TraceLink, TraceGroup}
use Rattle.console.specs.declared.command.LineFault.{LineFault}
use Rattle.console.specs.Commands.{Numeral, OneNumber, TwoNumbers, Spelled, Spells}
use Rattle.console.specs.Grammar.{bind, tail, after, letter_at, number_at, end_at, last_number, one, two, asked, sentence, reading}
use Rattle.console.specs.Words.{words, is_digits, number_of}

no_fault : {A : Type 0} (e : LineFault) (x : A) → Err e ≡ Ok x → ⊥
no_fault e x h = grind arith

bind_ok : {A B : Type 0} (r : Result A LineFault) (f : A → Result B LineFault) (y : B) → bind r f ≡ Ok y → (x : A) × (r ≡ Ok x) × (f x ≡ Ok y)
bind_ok (Ok x) f y h = (x, refl, h)
bind_ok (Err e) f y h = absurd (no_fault e y h)

number_ok : (at : ℕ) (ws : List (List ℕ)) (n : ℕ) → number_at at ws ≡ Ok n → (w : List ℕ) × (ws ≡ w ∷ tail ws) × Numeral w n
number_ok at [] n h = absurd (no_fault _ n h)
number_ok at (w ∷ ws) n h =
    cond_both (is_digits w) _ _ (λ r. r ≡ Ok n → (v : List ℕ) × (w ∷ ws ≡ v ∷ ws) × Numeral v n)
    (λ digits. cond_both (leb (number_of 0 w) 65535) _ _ (λ r. r ≡ Ok n → (v : List ℕ) × (w ∷ ws ≡ v ∷ ws) × Numeral v n)
    (λ small h. let e : number_of 0 w ≡ n = cc in (w, refl, record { digits = digits; value = e; small = omega (arith, e, leb-true _ _ small) }))
    (λ _ h. absurd (no_fault _ n h)))
    (λ _ h. absurd (no_fault _ n h)) h

end_ok : (m at : ℕ) (ws : List (List ℕ)) (n : ℕ) → end_at m at ws ≡ Ok n → (ws ≡ []) × (m ≡ n)
end_ok m at [] n h = (refl, cc)
end_ok m at (w ∷ ws) n h = absurd (no_fault _ n h)

last_ok : (at : ℕ) (ws : List (List ℕ)) (n : ℕ) → last_number at ws ≡ Ok n → (w : List ℕ) × (ws ≡ w ∷ []) × Numeral w n
last_ok at ws n h =
    let (m, a, b) = bind_ok (number_at at ws) _ n h in
    let (none, e) = end_ok m (after at ws) (tail ws) n b in
    let (w, first, numeral) = number_ok at ws m a in
    (w, first ∙ ap (λ x. w ∷ x) none, subst (λ x. Numeral w x) e numeral)

one_ok : (f : ℕ → Command) (at : ℕ) (ws : List (List ℕ)) (c : Command) → one f at ws ≡ Ok c → (n : ℕ) × (f n ≡ c) × (w : List ℕ) × (ws ≡ w ∷ []) × Numeral w n
one_ok f at ws c h =
    let (n, a, b) = bind_ok (last_number at ws) _ c h in
    let (w, all, numeral) = last_ok at ws n a in
    (n, cc, w, all, numeral)

two_ok : (f : ℕ → ℕ → Command) (at : ℕ) (ws : List (List ℕ)) (c : Command) → two f at ws ≡ Ok c → (n : ℕ) × (m : ℕ) × (f n m ≡ c) × (w : List ℕ) × (v : List ℕ) × (ws ≡ w ∷ (v ∷ [])) × Numeral w n × Numeral v m
two_ok f at ws c h =
    let (n, a, b) = bind_ok (number_at at ws) _ c h in
    let (m, e, v, rest, second) = one_ok (f n) (after at ws) (tail ws) c b in
    let (w, first, numeral) = number_ok at ws n a in
    (n, m, e, w, v, first ∙ ap (λ x. w ∷ x) rest, numeral, second)

-- The letter b stands for a command of one number, or of two.
spelled_one : (b : ℕ) (f : ℕ → Command) → ((n : ℕ) (ws : List (List ℕ)) → OneNumber (b ∷ []) n ws → Spelled (f n) ws) → (at : ℕ) (ws : List (List ℕ)) (c : Command) → one f at ws ≡ Ok c → Spelled c ((b ∷ []) ∷ ws)
spelled_one b f says at ws c h =
    let (n, e, w, all, numeral) = one_ok f at ws c h in
    subst (λ x. Spelled x ((b ∷ []) ∷ ws)) e (says n _ (record { word = w; all = ap (λ x. (b ∷ []) ∷ x) all; numeral = numeral }))

spelled_two : (b : ℕ) (f : ℕ → ℕ → Command) → ((n m : ℕ) (ws : List (List ℕ)) → TwoNumbers (b ∷ []) n m ws → Spelled (f n m) ws) → (at : ℕ) (ws : List (List ℕ)) (c : Command) → two f at ws ≡ Ok c → Spelled c ((b ∷ []) ∷ ws)
spelled_two b f says at ws c h =
    let (n, m, e, w, v, all, numeral, second) = two_ok f at ws c h in
    subst (λ x. Spelled x ((b ∷ []) ∷ ws)) e (says n m _ (record { first = w; second = v; all = ap (λ x. (b ∷ []) ∷ x) all; numeral = numeral; numeral_2 = second }))

module _ (b at : ℕ) (ws : List (List ℕ)) (c : Command) where
  abbrev Goal : Result Command LineFault → Type 0
  Goal r = r ≡ Ok c → Spelled c ((b ∷ []) ∷ ws)

  is : (k : ℕ) → Spelled c ((k ∷ []) ∷ ws) → eqb b k ≡ true → Spelled c ((b ∷ []) ∷ ws)
  is k s e = subst (λ x. Spelled c ((x ∷ []) ∷ ws)) (sym (eqb-true b k e)) s

  asked_ok : asked b at ws ≡ Ok c → Spelled c ((b ∷ []) ∷ ws)
  asked_ok =
      cond_both (eqb b 80) _ _ Goal (λ e h. is 80 (spelled_one 80 Plan (λ n ws s. s) at ws c h) e) (λ _.
      cond_both (eqb b 71) _ _ Goal (λ e h. is 71 (spelled_one 71 Guarantee (λ n ws s. s) at ws c h) e) (λ _.
      cond_both (eqb b 82) _ _ Goal (λ e h. is 82 (spelled_one 82 Route (λ n ws s. s) at ws c h) e) (λ _.
      cond_both (eqb b 66) _ _ Goal (λ e h. is 66 (spelled_one 66 Backup (λ n ws s. s) at ws c h) e) (λ _.
      cond_both (eqb b 87) _ _ Goal (λ e h. is 87 (spelled_one 87 Withdraw (λ n ws s. s) at ws c h) e) (λ _.
      cond_both (eqb b 77) _ _ Goal (λ e h. is 77 (spelled_one 77 Restore (λ n ws s. s) at ws c h) e) (λ _.
      cond_both (eqb b 76) _ _ Goal (λ e h. is 76 (spelled_two 76 TraceLink (λ n m ws s. s) at ws c h) e) (λ _.
      cond_both (eqb b 83) _ _ Goal (λ e h. is 83 (spelled_two 83 TraceGroup (λ n m ws s. s) at ws c h) e) (λ _ h.
      absurd (no_fault _ c h)))))))))

letter_ok : (at : ℕ) (ws : List (List ℕ)) (b : ℕ) → letter_at at ws ≡ Ok b → ws ≡ (b ∷ []) ∷ tail ws
letter_ok at [] b h = absurd (no_fault _ b h)
letter_ok at ([] ∷ ws) b h = absurd (no_fault _ b h)
letter_ok at ((a ∷ c ∷ w) ∷ ws) b h = absurd (no_fault _ b h)
letter_ok at ((a ∷ []) ∷ ws) b h =
    cond_both (is_ascii_alphabetic a) _ _ (λ r. r ≡ Ok b → (a ∷ []) ∷ ws ≡ (b ∷ []) ∷ ws) (λ _ h. let e : a ≡ b = cc in ap (λ x. (x ∷ []) ∷ ws) e) (λ _ h. absurd (no_fault _ b h)) h

sentence_ok : (ws : List (List ℕ)) (c : Command) → sentence ws ≡ Ok c → Spelled c ws
sentence_ok ws c h =
    let (b, a, s) = bind_ok (letter_at 0 ws) _ c h in
    subst (λ x. Spelled c x) (sym (letter_ok 0 ws b a)) (asked_ok b (after 0 ws) (tail ws) c s)

pub spells : (line : List ℕ) (c : Command) → reading line ≡ Ok c → Spells line c
spells line c =
    cond_both (ltb 64 (length line)) _ _ (λ r. r ≡ Ok c → Spells line c)
    (λ _ h. absurd (no_fault _ c h))
    (λ short h. (ltb-false 64 (length line) short, sentence_ok (words line) c h))
