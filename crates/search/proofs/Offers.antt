-- What the links into a node have offered, as the two searches keep it.
use Rattle.std.proofs.Common.{ℕ, ◌+◌, ◌<◌, ◌≤◌, List, [], ◌∷◌, length, Some, None, Option, sym, subst, arith}
use Rattle.definitions.specs.Networks.{Net, Limits}
use Rattle.definitions.specs.Measures.{Scale, Laws}
use Rattle.definitions.specs.Routes.{Valuation}
use Rattle.definitions.specs.Searches.{given}
use Rattle.definitions.proofs.Fixpoint.{Lawful}
use Rattle.heap.specs.declared.Heap.{Heap}
use Rattle.heap.specs.Heaps.{Heaped}
use Rattle.heap.specs.Holds.{held, capacity}
use Rattle.frontier.specs.declared.entries.Candidate.{Candidate}
use Rattle.frontier.specs.declared.entries.Settled.{Settled}
use Rattle.frontier.specs.declared.entries.Hop.{Hop}
use Rattle.frontier.specs.Orders.{ValueBefore, StepsBefore}
use Rattle.frontier.specs.Offers.{Fitting, Offered}
use Rattle.frontier.specs.Hops.{HopOffered}
use Rattle.frontier.specs.Progress.{Offering, HopOffering, links_into}
use Rattle.frontier.proofs.Offering.{offering_start, offering_down, offering_none, offering_some}
use Rattle.frontier.proofs.Hopping.{hopping_start, hopping_down, hopping_none, hopping_some}
use Rattle.search.specs.Offering.{HaveOffered, Takes}

-- the bound is no higher than the places are many
pub bound_below : {E : Type 0} (before : E → E → Type 0) (net : Net) (u : ℕ) (offer : ℕ → Option E → Type 0) (old : Heap E) (ks : List ℕ) (b : ℕ) (new : Heap E) →
    HaveOffered before net u offer old ks b new → b ≤ length net.places
bound_below before net u offer old [] b new (e, le, none) = le
bound_below before net u offer old (k ∷ ks) b new (mid, o, H, off, took, le, none) = let z = bound_below before net u offer old ks (k + 1) mid H in omega arith

module _ (m : Scale) (M : Laws m) (r : ℕ → Option ℕ) (net : Net) (F : Fitting net r) (N : Limits net) (d : ℕ → Option ℕ) (from : Candidate) (old : Heap Candidate)
    (offer : ℕ → Option Candidate → Type 0) (sound : (k : ℕ) (o : Option Candidate) → k < length net.places → offer k o → Offered (given m r) net d from k o)
    (H : Heaped (ValueBefore m) (held old)) (room : length (held old) + links_into net from.node (length net.places) ≤ capacity old) where
  pub offering_all : (ks : List ℕ) (b : ℕ) (new : Heap Candidate) → HaveOffered (ValueBefore m) net from.node offer old ks b new → Offering m r net d from old new b
  offering_all [] b new (e, le, none) =
      subst (λ h. Offering m r net d from old h b) (sym e) (offering_down m M r net F N d from old old b (length net.places) le none (offering_start m M r net F N d from old H))
  offering_all (k ∷ ks) b new (mid, o, before, off, took, le, none) =
      offering_down m M r net F N d from old new b k le none
      (turn (offering_all ks (k + 1) mid before) o took (sound k o (let z = bound_below (ValueBefore m) net from.node offer old ks (k + 1) mid before in omega arith) off))
    where
      turn : Offering m r net d from old mid (k + 1) → (o : Option Candidate) → Takes (ValueBefore m) o mid new → Offered (given m r) net d from k o → Offering m r net d from old new k
      turn prior None took off = subst (λ h. Offering m r net d from old h k) (sym took) (offering_none m M r net F N d from old k mid prior off)
      turn prior (Some e) took off = offering_some m M r net F N d from old k mid prior room e off took.answer new took.entries took.room took.order took.slots

module _ (ρ : Valuation) (net : Net) (d s : ℕ → Option ℕ) (from : Settled) (old : Heap Hop) (Fit : ℕ → Type 0) (L : Lawful ρ net Fit)
    (offer : ℕ → Option Hop → Type 0) (sound : (k : ℕ) (o : Option Hop) → k < length net.places → offer k o → HopOffered ρ net d s from k o)
    (H : Heaped StepsBefore (held old)) (room : length (held old) + links_into net from.node (length net.places) ≤ capacity old) where
  pub hopping_all : (ks : List ℕ) (b : ℕ) (new : Heap Hop) → HaveOffered StepsBefore net from.node offer old ks b new → HopOffering ρ net d s from old new b
  hopping_all [] b new (e, le, none) =
      subst (λ h. HopOffering ρ net d s from old h b) (sym e) (hopping_down ρ net d s from old old b (length net.places) le none (hopping_start ρ net d s from old H))
  hopping_all (k ∷ ks) b new (mid, o, before, off, took, le, none) =
      hopping_down ρ net d s from old new b k le none
      (turn (hopping_all ks (k + 1) mid before) o took (sound k o (let z = bound_below StepsBefore net from.node offer old ks (k + 1) mid before in omega arith) off))
    where
      turn : HopOffering ρ net d s from old mid (k + 1) → (o : Option Hop) → Takes StepsBefore o mid new → HopOffered ρ net d s from k o → HopOffering ρ net d s from old new k
      turn prior None took off = subst (λ h. HopOffering ρ net d s from old h k) (sym took) (hopping_none ρ net d s from old Fit L k mid prior off)
      turn prior (Some e) took off = hopping_some ρ net d s from old Fit L k mid prior room e off took.answer new took.entries took.room took.order took.slots
