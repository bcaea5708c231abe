-- What a planner's plan says has at most one proof, so a planner's type may keep it.
use Rattle.std.proofs.Common.{◌≡◌, ℕ, suc, ◌≤◌, Bool, true, List, Some, None, Option, subst, arith}
use Rattle.std.proofs.Props.{props}
use mathlib.Core.Bool.{Bool-set}
use mathlib.Core.HLevel.{¬_prop, Π_prop, ×_prop, Unit-prop, is_prop→PathP, hedberg}
use mathlib.Core.Logic.{∥∥₁_prop}
use native.Mathlib.Bridge.{le_prop}
use native.Mathlib.Decide.{ℕ_discrete}
use Rattle.definitions.specs.declared.Link.{Link}
use Rattle.definitions.specs.Networks.{Net, Holds, Limits, without}
use Rattle.definitions.specs.Measures.{Scale, Laws, worse}
use Rattle.definitions.specs.Routes.{Valuation, Best, Tight}
use Rattle.definitions.specs.Plans.{worst, Recovery}
use Rattle.definitions.specs.Searches.{Labels, Nexts}
use Rattle.definitions.proofs.Fixpoint.{Lawful, best_one}
use Rattle.definitions.proofs.Layers.{same_link, without_limits}
use Rattle.definitions.proofs.Lawfuls.{Value, recovery_one, worst_lawful}
use Rattle.definitions.proofs.Props.{best_prop}
use Rattle.frontier.specs.declared.record.NodeRecord.{NodeRecord}
use Rattle.routes.specs.Records.{value_of, steps_of, next_of}
use Rattle.histories.specs.State.{PlanRight}

ℕ_set : IsSet ℕ
ℕ_set = hedberg ℕ_discrete

maybe_set : IsSet (Option ℕ)
maybe_set = hlevel (ℕ_set, props)

place_set : IsSet (Option Link)
place_set = hlevel (ℕ_set, props)

same_number : (x : Option ℕ) (a b : ℕ) → x ≡ Some a → x ≡ Some b → a ≡ b
same_number x a b p q = cc

module _ (ρ : Valuation) (net : Net) (t : ℕ) (Fit : ℕ → Type 0) (L : Lawful ρ net Fit) (via_prop : (k : ℕ) (l : Link) (v w : ℕ) → IsProp (ρ.via k l v w)) where
  holds_prop : (k : ℕ) (l : Link) → IsProp (Holds net k l)
  holds_prop k l = place_set _ _

  tight_prop : (k : ℕ) (l : Link) → IsProp (Tight ρ net t k l)
  tight_prop k l A B =
      let p : A.beyond ≡ B.beyond = best_one ρ net t Fit L l.head A.beyond B.beyond A.best_beyond B.best_beyond in
      let q : A.own ≡ B.own = best_one ρ net t Fit L l.tail A.own B.own A.best_own B.best_own in
      λ i. record {
        elsewhere = ¬_prop A.elsewhere B.elsewhere i;
        beyond = p i;
        best_beyond = is_prop→PathP (λ i. Best ρ net t l.head (p i)) (λ i. best_prop ρ net t l.head (p i)) A.best_beyond B.best_beyond i;
        own = q i;
        best_own = is_prop→PathP (λ i. Best ρ net t l.tail (q i)) (λ i. best_prop ρ net t l.tail (q i)) A.best_own B.best_own i;
        exact = is_prop→PathP (λ i. ρ.via k l (p i) (q i)) (λ i. via_prop k l (p i) (q i)) A.exact B.exact i;
      }

  labels_prop : (d : ℕ → Option ℕ) → IsProp (Labels ρ net t d)
  labels_prop d A B = λ i. record {
    at_t = maybe_set _ _ A.at_t B.at_t i;
    relaxed = Π_prop (λ k. Π_prop (λ l. Π_prop (λ b. Π_prop (λ w. Π_prop (λ h. Π_prop (λ n. Π_prop (λ e. Π_prop (λ v. bound l w)))))))) A.relaxed B.relaxed i;
    met = Π_prop (λ u. Π_prop (λ a. Π_prop (λ e. ∥∥₁_prop))) A.met B.met i;
  }
    where
      bound : (l : Link) (w : ℕ) → IsProp ((a : ℕ) × (d l.tail ≡ Some a) × (ρ.no_worse a w ≡ true))
      bound l w (a, da, x) (b, db, y) =
          let p : a ≡ b = same_number (d l.tail) a b da db in
          λ i. (
            p i,
            is_prop→PathP (λ i. d l.tail ≡ Some (p i)) (λ i. maybe_set _ _) da db i,
            is_prop→PathP (λ i. ρ.no_worse (p i) w ≡ true) (λ i. Bool-set _ _) x y i,
          )

  nexts_prop : (s nx : ℕ → Option ℕ) → IsProp (Nexts ρ net t s nx)
  nexts_prop s nx A B = λ i. record {
    none_at_t = maybe_set _ _ A.none_at_t B.none_at_t i;
    offered = Π_prop (λ k. Π_prop (λ l. Π_prop (λ n. Π_prop (λ h. Π_prop (λ T. Π_prop (λ e. fewest k l n)))))) A.offered B.offered i;
    taken = Π_prop (λ u. Π_prop (λ a. Π_prop (λ e. Π_prop (λ ne. way u a)))) A.taken B.taken i;
  }
    where
      fewest : (k : ℕ) (l : Link) (n : ℕ) → IsProp ((a : ℕ) × (s l.tail ≡ Some a) × (a ≤ suc n) × ((j : ℕ) → a ≡ suc n → nx l.tail ≡ Some j → j ≤ k))
      fewest k l n (a, sa, x, f) (b, sb, y, g) =
          let p : a ≡ b = same_number (s l.tail) a b sa sb in
          λ i. (
            p i,
            is_prop→PathP (λ i. s l.tail ≡ Some (p i)) (λ i. maybe_set _ _) sa sb i,
            is_prop→PathP (λ i. p i ≤ suc n) (λ i. le_prop) x y i,
            is_prop→PathP (λ i. (j : ℕ) → p i ≡ suc n → nx l.tail ≡ Some j → j ≤ k) (λ i. Π_prop (λ j. Π_prop (λ e. Π_prop (λ z. le_prop)))) f g i,
          )

      way : (u a : ℕ) → IsProp ((k : ℕ) × (l : Link) × (n : ℕ) × (nx u ≡ Some k) × Holds net k l × (l.tail ≡ u) × Tight ρ net t k l × (s l.head ≡ Some n) × (a ≡ suc n))
      way u a (k, l, n, x, h, f, T, g, z) (k', l', n', x', h', f', T', g', z') =
          let p : k ≡ k' = same_number (nx u) k k' x x' in
          let q : l ≡ l' = same_link net k' l l' (subst (λ j. Holds net j l) p h) h' in
          let r : n ≡ n' = omega (arith, z, z') in
          λ i. (
            p i,
            q i,
            r i,
            is_prop→PathP (λ i. nx u ≡ Some (p i)) (λ i. maybe_set _ _) x x' i,
            is_prop→PathP (λ i. Holds net (p i) (q i)) (λ i. holds_prop (p i) (q i)) h h' i,
            is_prop→PathP (λ i. (q i).tail ≡ u) (λ i. ℕ_set _ _) f f' i,
            is_prop→PathP (λ i. Tight ρ net t (p i) (q i)) (λ i. tight_prop (p i) (q i)) T T' i,
            is_prop→PathP (λ i. s (q i).head ≡ Some (r i)) (λ i. maybe_set _ _) g g' i,
            is_prop→PathP (λ i. a ≡ suc (r i)) (λ i. ℕ_set _ _) z z' i,
          )

-- a link makes the worst value of a value in one way
worst_prop : (m : Scale) → Laws m → (net : Net) → Limits net → (t k : ℕ) (l : Link) (v w : ℕ) → IsProp ((worst m net t).via k l v w)
worst_prop m M net N t k l v w (r, R, e) (s, S, f) =
    let p : r ≡ s = recovery_one m M net N t k l r s R S in
    λ i. (
      p i,
      is_prop→PathP (λ i. Recovery m net t k l (p i)) (λ i. best_prop _ _ t l.tail (p i)) R S i,
      is_prop→PathP (λ i. w ≡ worse m (p i) (m.extend v l.figure)) (λ i. ℕ_set _ _) e f i,
    )

-- The records of a plan are right, over a network without some of its places, in one way.
pub right_prop : (m : Scale) → Laws m → (net : Net) → Limits net → (gone : ℕ → Bool) (o : Option ℕ) (rs : List NodeRecord) → IsProp (PlanRight m (without gone net) o rs)
right_prop m M net N gone None rs = Unit-prop
right_prop m M net N gone (Some t) rs =
    let low = without_limits gone net N in
    let L = worst_lawful m M (without gone net) low t in
    let one = worst_prop m M (without gone net) low t in
    ×_prop le_prop (λ A B. λ i. record {
      labels = labels_prop (worst m (without gone net) t) (without gone net) t Value L one (value_of rs) A.labels B.labels i;
      links = nexts_prop (worst m (without gone net) t) (without gone net) t Value L one (steps_of rs) (next_of rs) A.links B.links i;
    })
