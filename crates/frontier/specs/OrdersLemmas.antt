-- Entries by value, then by number, are in a total order under a lawful measure, and so are links by steps, then by number.
use Rattle.std.specs.Prelude.{◌≡◌, ℕ, ◌^◌, ◌<◌, ◌≤◌, true, ◌⊎◌}
use Rattle.std.proofs.Common.{sym, subst, inl, inr, ⊎_elim, arith}
use Rattle.std.proofs.lemmas.Bool.{cases_eq, cases_lt}
use Rattle.definitions.specs.Measures.{Scale, Laws}
use Rattle.frontier.specs.declared.entries.Candidate.{Candidate}
use Rattle.frontier.specs.declared.entries.Hop.{Hop}
use Rattle.frontier.specs.Orders.{ValueFits, ValueBefore, StepsBefore}

module _ (m : Scale) (M : Laws m) where
  pub itself : (a b : ℕ) → a < 2 ^ 64 → a ≡ b → m.no_worse a b ≡ true
  itself a b f e = subst (λ x. m.no_worse a x ≡ true) e (⊎_elim (λ h. h) (λ h. h) (M.one_is a a f f))

  pub value_total : (a b : Candidate) → ValueFits a → ValueFits b → ValueBefore m a b ⊎ ValueBefore m b a
  value_total a b f g = ⊎_elim
      (λ e. ⊎_elim
      (λ lt. inl (record { first = f; second = g; by_value = itself _ _ f e; tie = λ _. omega arith }))
      (λ le. inr (record { first = g; second = f; by_value = itself _ _ g (sym e); tie = λ _. le }))
      (cases_lt a.node b.node))
      (λ u. ⊎_elim
      (λ h. inl (record { first = f; second = g; by_value = h; tie = λ e. absurd (u e) }))
      (λ h. inr (record { first = g; second = f; by_value = h; tie = λ e. absurd (u (sym e)) }))
      (M.one_is a.value b.value f g))
      (cases_eq a.value b.value)

  pub value_chain : (a b c : Candidate) → ValueBefore m a b → ValueBefore m b c → ValueBefore m a c
  value_chain a b c p q = record {
    first = p.first;
    second = q.second;
    by_value = M.chains _ _ _ p.first p.second q.second p.by_value q.by_value;
    tie = λ e.
        let ab : a.value ≡ b.value = M.equal _ _ p.first p.second p.by_value (subst (λ x. m.no_worse b.value x ≡ true) (sym e) q.by_value) in
        let bc : b.value ≡ c.value = omega arith in
        let l = p.tie ab in
        let m = q.tie bc in
        omega arith;
  }

  pub value_same : (a b : Candidate) → ValueBefore m a b → ValueBefore m b a → a ≡ b
  value_same a b p q =
      let v : a.value ≡ b.value = M.equal _ _ p.first p.second p.by_value q.by_value in
      let l = p.tie v in
      let m = q.tie (sym v) in
      let n : a.node ≡ b.node = omega arith in
      (λ i. record { value = v i; node = n i })

pub steps_total : (a b : Hop) → Unit {0} → Unit {0} → StepsBefore a b ⊎ StepsBefore b a
steps_total a b f g = ⊎_elim
    (λ e. ⊎_elim (λ lt. inl (omega arith, λ _. omega arith)) (λ le. inr (omega arith, λ _. le)) (cases_lt a.link b.link))
    (λ u. ⊎_elim (λ lt. inl (omega arith, λ e. absurd (u e))) (λ le. inr (le, λ e. absurd (u (sym e)))) (cases_lt a.steps b.steps))
    (cases_eq a.steps b.steps)

pub steps_chain : (a b c : Hop) → StepsBefore a b → StepsBefore b c → StepsBefore a c
steps_chain a b c (ab, tie_ab) (bc, tie_bc) = (
  omega arith,
  λ e.
      let l : a.link ≤ b.link = tie_ab (omega arith) in
      let m : b.link ≤ c.link = tie_bc (omega arith) in
      omega arith,
)

pub steps_same : (a b : Hop) → StepsBefore a b → StepsBefore b a → a ≡ b
steps_same a b (ab, tie_ab) (ba, tie_ba) =
    let s : a.steps ≡ b.steps = omega arith in
    let l = tie_ab s in
    let m = tie_ba (sym s) in
    let k : a.link ≡ b.link = omega arith in
    (λ i. record { steps = s i; link = k i })
