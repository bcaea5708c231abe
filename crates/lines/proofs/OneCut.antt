-- Bytes are cut into lines in one way only.
use Rattle.std.proofs.Common.{◌≡◌, ℕ, List, [], ◌∷◌, ◌++◌, ◌≢◌, All, length, sym, refl, ap, ◌∙◌, append_assoc, arith}
use Rattle.std.specs.List.{flat_map}
use Rattle.std.proofs.lemmas.List.Elements.{All-head, All-tail}
use Rattle.lines.specs.Lines.{Unbroken, broken_off, LinesOf, last_line}

unbroken_first : (b : ℕ) (bs : List ℕ) → Unbroken (b ∷ bs) → b ≢ 10
unbroken_first = All-head (λ x. x ≢ 10)

unbroken_rest : (b : ℕ) (bs : List ℕ) → Unbroken (b ∷ bs) → Unbroken bs
unbroken_rest = All-tail (λ x. x ≢ 10)

-- The first byte 10 ends the first line.
same_line : (l k xs ys : List ℕ) → Unbroken l → Unbroken k → l ++ (10 ∷ xs) ≡ k ++ (10 ∷ ys) → (l ≡ k) × (xs ≡ ys)
same_line [] [] xs ys u v e = (refl, cc)
same_line [] (b ∷ k) xs ys u v e = absurd (unbroken_first b k v (cc))
same_line (a ∷ l) [] xs ys u v e = absurd (unbroken_first a l u (cc))
same_line (a ∷ l) (b ∷ k) xs ys u v e =
    let rest : l ++ (10 ∷ xs) ≡ k ++ (10 ∷ ys) = cc in
    let (p, q) = same_line l k xs ys (unbroken_rest a l u) (unbroken_rest b k v) rest in
    (cc, q)

no_line : (l xs rest : List ℕ) → Unbroken rest → rest ≡ l ++ (10 ∷ xs) → ⊥
no_line [] xs [] u e = omega (arith, ap length e)
no_line [] xs (b ∷ rest) u e = unbroken_first b rest u (cc)
no_line (a ∷ l) xs [] u e = omega (arith, ap length e)
no_line (a ∷ l) xs (b ∷ rest) u e = no_line l xs rest (unbroken_rest b rest u) (cc)

first_off : (l ended rest : List ℕ) → (broken_off l ++ ended) ++ rest ≡ l ++ (10 ∷ (ended ++ rest))
first_off l ended rest = append_assoc (broken_off l) ended rest ∙ append_assoc l (10 ∷ []) (ended ++ rest)

one_cut : (ls ks : List (List ℕ)) (rest last : List ℕ) → All Unbroken ls → All Unbroken ks → Unbroken rest → Unbroken last → flat_map broken_off ls ++ rest ≡ flat_map broken_off ks ++ last → (ls ≡ ks) × (rest ≡ last)
one_cut [] [] rest last us vs u v e = (refl, e)
one_cut [] (k ∷ ks) rest last us vs u v e = absurd (no_line k _ rest u (e ∙ first_off k (flat_map broken_off ks) last))
one_cut (l ∷ ls) [] rest last us vs u v e = absurd (no_line l _ last v (sym e ∙ first_off l (flat_map broken_off ls) rest))
one_cut (l ∷ ls) (k ∷ ks) rest last us vs u v e =
    let (p, q) = same_line l k _ _ (All-head Unbroken l ls us) (All-head Unbroken k ks vs) (sym (first_off l (flat_map broken_off ls) rest) ∙ e ∙ first_off k (flat_map broken_off ks) last) in
    let (ps, r) = one_cut ls ks rest last (All-tail Unbroken l ls us) (All-tail Unbroken k ks vs) u v q in
    (cc, r)

pub one_lines : (bytes : List ℕ) (lines others : List (List ℕ)) → LinesOf bytes lines → LinesOf bytes others → others ≡ lines
one_lines bytes lines others A B =
    let (p, q) = one_cut B.ended A.ended B.rest A.rest B.cut.unbroken A.cut.unbroken B.cut.unended A.cut.unended (sym B.cut.whole ∙ A.cut.whole) in
    B.all ∙ ap (λ x. x ++ last_line bytes B.rest) p ∙ ap (λ x. A.ended ++ last_line bytes x) q ∙ sym A.all
