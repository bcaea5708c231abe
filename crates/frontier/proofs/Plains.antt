-- With the starting value as the recovery value of every link, the searches find plain values.
use Rattle.std.proofs.Common.{◌≡◌, ℕ, ◌^◌, ◌<◌, ◌≤◌, List, length, replicate, Some, None, Option, sym, ap, ◌∙◌, subst, inl, inr, arith}
use lib.ListN.{length-replicate}
use Rattle.std.proofs.lemmas.Bool.{cases_lt}
use Rattle.definitions.specs.declared.Link.{Link}
use Rattle.definitions.specs.Networks.{Net, Holds, Limits, place}
use Rattle.definitions.specs.Measures.{Scale, Laws}
use Rattle.definitions.specs.Routes.{BestIs}
use Rattle.definitions.specs.Plans.{plain}
use Rattle.definitions.specs.Searches.{given, Labels, Nexts}
use Rattle.definitions.proofs.Givens.{plain_labels, plain_nexts}
use Rattle.definitions.proofs.Lawfuls.{Value, plain_lawful}
use Rattle.definitions.proofs.Layers.{place_past}
use Rattle.definitions.proofs.Props.{labels_answer}
use Rattle.frontier.specs.Offers.{Fitting}
use Rattle.frontier.proofs.Offering.{holds_inside}
use Rattle.std.proofs.lemmas.List.{get_or-replicate}

-- every place of a filled list holds the same
filled_only : (n k v x : ℕ) → place (replicate n (Some v)) k ≡ Some x → x ≡ v
filled_only n k v x e = elim (cases_lt k n) [
  | inl lt ↦ (let f : place (replicate n (Some v)) k ≡ Some v = get_or-replicate n k (Some v) None lt in cc)
  | inr le ↦ (
      let f = place_past (replicate n (Some v)) k (let z = length-replicate n (Some v) in omega arith) in
      let z : ◌≡◌ {A = ℕ} 0 1 = cc in absurd (omega arith))
]

module _ (m : Scale) (M : Laws m) (net : Net) (N : Limits net) (t : ℕ) (starts : List (Option ℕ)) (n v : ℕ)
    (is : starts ≡ replicate n (Some v)) (start : v ≡ m.start) (long : length net.places ≤ n) where
  -- the starting value fits, as a recovery value must
  pub starts_fitting : Fitting net (place starts)
  starts_fitting k l x h e =
      let q : x ≡ v = filled_only n k v x (ap (λ xs. place xs k) (sym is) ∙ e) in
      subst (λ y. y < 2 ^ 64) (sym (q ∙ start)) M.start_fits

  starts_at : (k : ℕ) (l : Link) → Holds net k l → place starts k ≡ Some m.start
  starts_at k l h = let z = holds_inside net k l h in ap (λ xs. place xs k) is ∙ (get_or-replicate n k (Some v) None (omega arith) ∙ ap Some start)

  module _ (d : ℕ → Option ℕ) (S : Labels (given m (place starts)) net t d) where
    -- what the search for values ends with
    pub plain_found : Labels (plain m) net t d
    plain_found = plain_labels m M net N t (place starts) starts_at d S

    pub plain_best : (u : ℕ) → BestIs (plain m) net t u (d u)
    plain_best = labels_answer (plain m) net t Value (plain_lawful m M net N) d ∣ plain_found ∣₁

    -- what the search for next links ends with
    pub plain_next : (s nx : ℕ → Option ℕ) → Nexts (given m (place starts)) net t s nx → Nexts (plain m) net t s nx
    plain_next s nx X = plain_nexts m M net N t (place starts) starts_at d S s nx X
