-- How many nodes have a guarantee, from the records.
use Rattle.std.proofs.Common.{◌≡◌, ℕ, zero, suc, ◌+◌, ◌≤◌, List, length, take, is_some, Some, None, Option, sym, refl, ap, subst, add-one, arith}
use mathlib.Core.Logic.{∥∥₁_elim}
use mathlib.Core.HLevel.{⊥_prop}
use Rattle.std.proofs.lemmas.List.Sums.{count_by_more_yes, count_by_more_no}
use Rattle.definitions.specs.Networks.{Net, Limits}
use Rattle.definitions.specs.Measures.{Scale, Laws}
use Rattle.definitions.specs.Plans.{worst, Guarantee, Counted, none, one, skip}
use Rattle.definitions.proofs.Fixpoint.{label_best, label_none}
use Rattle.definitions.proofs.Lawfuls.{Value, worst_lawful}
use Rattle.frontier.specs.declared.record.NodeRecord.{NodeRecord}
use Rattle.routes.specs.Records.{Recorded, blank, value_of}
use Rattle.planner.specs.Tally.{tallied}

module _ (m : Scale) (M : Laws m) (net : Net) (N : Limits net) (t : ℕ) (rs : List NodeRecord) (D : Recorded (worst m net t) net t rs) where
  -- the nodes with a value are those with a guarantee
  pub counted : (n : ℕ) → n ≤ length rs → Counted (λ u. ∥ ((g : ℕ) × Guarantee m net t u g) ∥₁) n (tallied (take n rs))
  counted zero le = none
  counted (suc n) le = go (counted n (omega arith)) (value_of rs n) refl
    where
      go : Counted (λ u. ∥ ((g : ℕ) × Guarantee m net t u g) ∥₁) n (tallied (take n rs)) → (o : Option ℕ) → value_of rs n ≡ o → Counted (λ u. ∥ ((g : ℕ) × Guarantee m net t u g) ∥₁) (suc n) (tallied (take (suc n) rs))
      go ih (Some g) e =
          let more : tallied (take (n + 1) rs) ≡ tallied (take n rs) + 1 = count_by_more_yes (λ r. is_some r.value) rs n blank (omega arith) (ap is_some e) in
          let more' : tallied (take (suc n) rs) ≡ suc (tallied (take n rs)) = rw (add-one, add-one) at more in
          subst (λ x. Counted (λ u. ∥ ((g : ℕ) × Guarantee m net t u g) ∥₁) (suc n) x) (sym more')
          (one ∣ (g, label_best (worst m net t) net t Value (worst_lawful m M net N t) (value_of rs) D.labels n g e) ∣₁ ih)
      go ih None e =
          let more : tallied (take (n + 1) rs) ≡ tallied (take n rs) = count_by_more_no (λ r. is_some r.value) rs n blank (omega arith) (ap is_some e) in
          let more' : tallied (take (suc n) rs) ≡ tallied (take n rs) = rw add-one at more in
          subst (λ x. Counted (λ u. ∥ ((g : ℕ) × Guarantee m net t u g) ∥₁) (suc n) x) (sym more')
          (skip (λ x. ∥∥₁_elim x ⊥_prop (λ (g, G). ∥∥₁_elim G.reached ⊥_prop (λ (ks, W). label_none (worst m net t) net t Value (worst_lawful m M net N t) (value_of rs) D.labels n e ks g W))) ih)
