-- The questions of the reading calls, answered from the records.
use Rattle.std.proofs.Common.{◌≡◌, ℕ, ◌<◌, Bool, true, false, cond, ltb, Some, None, Ok, Err, Option, Result, sym, refl, ap, ◌∙◌, subst, inl, inr, arith, ltb-false, ltb-true}
use mathlib.Core.Logic.{∥∥₁_elim}
use mathlib.Core.HLevel.{⊥_prop}
use Rattle.definitions.specs.Networks.{Net, Limits}
use Rattle.definitions.specs.Measures.{Scale, Laws}
use Rattle.definitions.specs.Plans.{worst, Guarantee}
use Rattle.definitions.proofs.Fixpoint.{Lawful, label_best, label_none}
use Rattle.definitions.proofs.Layers.{without_limits}
use Rattle.definitions.proofs.Lawfuls.{Value, worst_lawful}
use Rattle.histories.specs.declared.call.Reading.{Reading}
use Rattle.histories.specs.declared.fault.PlannerFault.{PlannerFault}
use Rattle.histories.specs.declared.fault.PlannerFault.TheVariants.{NoPlan, NoNode, NoGuarantee}
use Rattle.routes.specs.Records.{Recorded, value_of}
use Rattle.histories.specs.Questions.{Reads}
use Rattle.histories.specs.State.{State, marked, in_service, Stands, PlanRight, Right}
use Rattle.histories.specs.Parts.{read_answer, read_from, read_value}
use Rattle.histories.proofs.Plain.{ok_err, ok_one, err_one}

abbrev pub found : ℕ → ℕ → Reading
found t g = record { destination = t; guarantee = g }

-- what every outcome of the questions gives
outcome : (m : Scale) (net : Net) (stands : ℕ → Type 0) (u : ℕ) {X : Type 0} → Reads m net stands u (λ f. X) (λ t g. X) → X
outcome m net stands u (inr (_, x)) = x
outcome m net stands u (inl (t, st, inr (_, x))) = x
outcome m net stands u (inl (t, st, inl (lt, inr (_, x)))) = x
outcome m net stands u (inl (t, st, inl (lt, inl (g, G, x)))) = x

pub service_limits : (s : State) → Limits s.net → Limits (in_service s)
service_limits s N = without_limits (marked s.marks) s.net N

module _ (m : Scale) (M : Laws m) (s : State) (N : Limits s.net) (R : Right m s) (u : ℕ) where
  limits : Limits (in_service s)
  limits = without_limits (marked s.marks) s.net N

  pub lawful : (t : ℕ) → Lawful (worst m (in_service s) t) (in_service s) Value
  lawful t = worst_lawful m M (in_service s) limits t

  -- All that is known where the questions 12, 13 and 14 are answered with yes.
  pub record Known (t g : ℕ) : Type 0 where
    pub stands : Stands s t
    pub node : u < s.net.nodes
    pub destination : t < s.net.nodes
    pub recorded : Recorded (worst m (in_service s) t) (in_service s) t s.records
    pub label : value_of s.records u ≡ Some g
    pub guarantee : Guarantee m (in_service s) t u g

  pub reading : (r : Result Reading PlannerFault) → r ≡ read_answer s u → (refused : PlannerFault → Type 0) (accepted : ℕ → ℕ → Type 0) →
      ((f : PlannerFault) → r ≡ Err f → refused f) → ((t g : ℕ) → Known t g → r ≡ Ok (found t g) → accepted t g) → Reads m (in_service s) (Stands s) u refused accepted
  reading r e refused accepted bad good = standing s.standing refl e
    where
      standing : (o : Option ℕ) → s.standing ≡ o → r ≡ read_from s o u → Reads m (in_service s) (Stands s) u refused accepted
      standing None q e = inr ((λ t p. let z : ◌≡◌ {A = ℕ} 0 1 = cc in omega arith), bad NoPlan e)
      standing (Some t) q e = node (ltb u s.net.nodes) refl e
        where
          sound : PlanRight m (in_service s) (Some t) s.records
          sound = subst (λ o. PlanRight m (in_service s) o s.records) q R

          node : (b : Bool) → ltb u s.net.nodes ≡ b → r ≡ cond b (read_value t u (value_of s.records u)) (Err (NoNode u)) → Reads m (in_service s) (Stands s) u refused accepted
          node false p e = inl (t, q, inr ((λ lt. let le = ltb-false u s.net.nodes p in omega arith), bad (NoNode u) e))
          node true p e = value (value_of s.records u) refl e
            where
              lt : u < s.net.nodes
              lt = ltb-true u s.net.nodes p

              value : (o : Option ℕ) → value_of s.records u ≡ o → r ≡ read_value t u o → Reads m (in_service s) (Stands s) u refused accepted
              value None z e = inl (
                t,
                q,
                inl (
                  lt,
                  inr (
                    (λ g G. ∥∥₁_elim G.reached ⊥_prop (λ c. label_none (worst m (in_service s) t) (in_service s) t Value (lawful t) (value_of s.records) sound.1.labels u z c.0 g c.1)),
                    bad (NoGuarantee u) e,
                  ),
                ),
              )
              value (Some g) z e =
                  let G = label_best (worst m (in_service s) t) (in_service s) t Value (lawful t) (value_of s.records) sound.1.labels u g z in
                  inl (t, q, inl (lt, inl (g, G, good t g (record { stands = q; node = lt; destination = sound.0; recorded = sound.1; label = z; guarantee = G }) e)))

  pub reading_refused : (r : Result Reading PlannerFault) (e : PlannerFault) → r ≡ read_answer s u → r ≡ Err e → (refused : PlannerFault → Type 0) (accepted : ℕ → ℕ → Type 0) → refused e →
      Reads m (in_service s) (Stands s) u refused accepted
  reading_refused r e q p refused accepted x =
      reading r q refused accepted (λ f z. subst refused (err_one {A = Reading} e f (sym p ∙ z)) x) (λ t g K z. absurd (ok_err r (found t g) e z p))

  pub reading_accepted : (r : Result Reading PlannerFault) (t g : ℕ) → r ≡ read_answer s u → r ≡ Ok (found t g) → (refused : PlannerFault → Type 0) (accepted : ℕ → ℕ → Type 0) → (Known t g → accepted t g) →
      Reads m (in_service s) (Stands s) u refused accepted
  reading_accepted r t g q p refused accepted good =
      reading r q refused accepted (λ f z. absurd (ok_err r (found t g) f p z)) (λ x y K z.
      let tx : t ≡ x = same_first (sym p ∙ z) in
      let gy : g ≡ y = same_second (sym p ∙ z) in
      subst (λ i. accepted x i) gy (subst (λ i. accepted i g) tx (good (subst (λ i. Known i g) (sym tx) (subst (λ i. Known x i) (sym gy) K)))))
    where
      same_first : {x y : ℕ} → ◌≡◌ {A = Result Reading PlannerFault} (Ok (found t g)) (Ok (found x y)) → t ≡ x
      same_first {x} {y} e = ap (λ p. p.destination) (ok_one {B = PlannerFault} (found t g) (found x y) e)

      same_second : {x y : ℕ} → ◌≡◌ {A = Result Reading PlannerFault} (Ok (found t g)) (Ok (found x y)) → g ≡ y
      same_second {x} {y} e = ap (λ p. p.guarantee) (ok_one {B = PlannerFault} (found t g) (found x y) e)

  pub known : (r : Result Reading PlannerFault) (t g : ℕ) → r ≡ read_answer s u → r ≡ Ok (found t g) → Known t g
  known r t g q p = outcome m (in_service s) (Stands s) u (reading_accepted r t g q p (λ f. Known t g) (λ x y. Known t g) (λ K. K))
