-- One call more of a list that is replayed.
use Rattle.std.proofs.Common.{◌≡◌, ℕ, zero, suc, ◌+◌, ◌<◌, Bool, List, [], ◌∷◌, ◌++◌, map, reverse, length, get_or, take, set, sym, refl, ap, ◌∙◌, subst, add-one, take-suc-set}
use Rattle.std.proofs.lemmas.List.{reverse-append}
use Rattle.definitions.specs.Networks.{Net}
use Rattle.definitions.specs.Measures.{Scale}
use Rattle.histories.specs.declared.call.Event.{Event}
use Rattle.histories.specs.declared.call.Call.{Call}
use Rattle.histories.specs.State.{State}
use Rattle.histories.specs.Histories.{After, Ran, Follows}

-- the newest of i + 1 calls is the one just noted
newest_first : (xs : List Event) (i : ℕ) (e : Event) → i < length xs → reverse (take (i + 1) (set xs i e)) ≡ e ∷ reverse (take i xs)
newest_first xs i e lt =
    let more : take (i + 1) (set xs i e) ≡ take i xs ++ (e ∷ []) = rw add-one (take-suc-set xs i e lt) in
    ap reverse more ∙ reverse-append (take i xs) (e ∷ [])

pub replay_more : (m : Scale) (n : Net) (xs : List Event) (i : ℕ) (c : Call) (b : Bool) (s s' : State) → i < length xs → Follows m s c b s'
    → Ran m n (reverse (take i xs)) → After m n (reverse (take i xs)) s
    → Ran m n (reverse (take (i + 1) (set xs i (record { call = c; accepted = b })))) × After m n (reverse (take (i + 1) (set xs i (record { call = c; accepted = b })))) s'
replay_more m n xs i c b s s' lt step ran a =
    let P : List Event → Type 0 = λ h. Ran m n h × After m n h s' in
    let next = step n (reverse (take i xs)) a in
    subst P (sym (newest_first xs i (record { call = c; accepted = b }) lt)) ((next.1, ran), next.0)

-- noting an answer leaves the calls
pub same_calls : (xs : List Event) (i : ℕ) (e d : Event) → e.call ≡ (get_or xs i d).call → map (λ x. x.call) (set xs i e) ≡ map (λ x. x.call) xs
same_calls [] i e d same = refl
same_calls (x ∷ xs) zero e d same = ap (λ y. y ∷ map (λ z. z.call) xs) same
same_calls (x ∷ xs) (suc i) e d same = ap (λ ys. x.call ∷ ys) (same_calls xs i e d same)
