-- With the recovery value of every link, the searches find worst values.
use Rattle.std.proofs.Common.{ℕ, Option, subst}
use Rattle.definitions.specs.declared.Link.{Link}
use Rattle.definitions.specs.Networks.{Net, Holds, Limits, at_risk}
use Rattle.definitions.specs.Measures.{Scale, Laws}
use Rattle.definitions.specs.Routes.{BestIs}
use Rattle.definitions.specs.Plans.{plain, worst}
use Rattle.definitions.specs.Searches.{given, Labels, Nexts}
use Rattle.definitions.proofs.Givens.{Recoveries, worst_labels, worst_nexts}
use Rattle.definitions.proofs.Lawfuls.{Value, worst_lawful, recovery_fits}
use Rattle.definitions.proofs.Props.{labels_answer}
use Rattle.frontier.specs.Offers.{Fitting}

module _ (m : Scale) (M : Laws m) (net : Net) (N : Limits net) (t : ℕ) (r : ℕ → Option ℕ)
    (R : (k : ℕ) (l : Link) → Holds net k l → BestIs (plain m) (at_risk k net) t l.tail (r k)) where
  recoveries : Recoveries m M net N t r
  recoveries = record {
    some = λ k l x h e. subst (BestIs (plain m) (at_risk k net) t l.tail) e (R k l h);
    none = λ k l h e. subst (BestIs (plain m) (at_risk k net) t l.tail) e (R k l h);
  }

  pub recovered_fitting : Fitting net r
  recovered_fitting k l x h e = recovery_fits m M net N t k l x (recoveries.some k l x h e)

  module _ (d : ℕ → Option ℕ) (S : Labels (given m r) net t d) where
    -- what the search for values ends with
    pub worst_found : Labels (worst m net t) net t d
    worst_found = worst_labels m M net N t r recoveries d S

    pub worst_best : (u : ℕ) → BestIs (worst m net t) net t u (d u)
    worst_best = labels_answer (worst m net t) net t Value (worst_lawful m M net N t) d ∣ worst_found ∣₁

    -- what the search for next links ends with
    pub worst_next : (s nx : ℕ → Option ℕ) → Nexts (given m r) net t s nx → Nexts (worst m net t) net t s nx
    worst_next s nx X = worst_nexts m M net N t r recoveries d s nx S X
