-- Lists of links as networks: one more link, and what the questions before it ensure.
use Rattle.std.proofs.Common.{◌≡◌, ℕ, zero, suc, ◌+◌, ◌^◌, ◌<◌, Bool, true, false, cond, ◌||◌, ◌==◌, nat_lt, ◌⊎◌, inl, inr, List, [], ◌∷◌, ◌++◌, map, length, take, slice_index_or, add-one, Some, None, Ok, Err, Option, sym, refl, ap, ◌∙◌, subst, arith}
use Rattle.std.proofs.lemmas.List.{length-map, map_push, take_more, length-take-le}
use Rattle.std.proofs.Math.Nat.{add-zero, zero-add}
use Rattle.std.proofs.lemmas.Bool.{cond-false}
use Rattle.std.proofs.lemmas.Bool.Decides.{nat_tests}
use Rattle.std.proofs.lemmas.Option.{none-some}
use Rattle.definitions.specs.declared.Link.{Link}
use Rattle.definitions.specs.Networks.{Net, AllSound, Sound, place, listed}
use Rattle.std.specs.Option.{option_or}
use Rattle.networks.specs.declared.draft.DraftFault.{DraftFault}
use Rattle.networks.specs.declared.draft.DraftFault.TheVariants.{NoMemory}
use Rattle.networks.specs.Drafts.{refusal, first_refusal, network_fault, or_memory, Added, answered}

pub sound_push : (nodes : ℕ) (ls : List Link) (l : Link) → AllSound (listed nodes ls) → Sound nodes l → AllSound (listed nodes (ls ++ (l ∷ [])))
sound_push nodes [] l all s zero x e = let p : l ≡ x = cc in rw p at s
sound_push nodes [] l all s (suc k) x e = absurd (none-some x e)
sound_push nodes (y ∷ ys) l all s zero x e = all zero x e
sound_push nodes (y ∷ ys) l all s (suc k) x e = sound_push nodes ys l (λ j. all (suc j)) s k x e

pub sound_unless : (nodes place : ℕ) (l : Link) → None ≡ refusal nodes place l → l.figure < 2 ^ 32 → l.groups < 2 ^ 32 → (place < 1024) × Sound nodes l
sound_unless nodes place l e f g = grind (arith, nat_tests)

-- A push that may have failed for want of memory.
pub sound_tried : (nodes : ℕ) (ls ms : List Link) (l : Link) (made : Bool) → ms ≡ cond made (ls ++ (l ∷ [])) ls → AllSound (listed nodes ls) → Sound nodes l → AllSound (listed nodes ms)
sound_tried nodes ls ms l true e all s = rw e (sound_push nodes ls l all s)
sound_tried nodes ls ms l false e all s = rw e all

-- What an answer says of the fault behind it.
pub answered_ok : {F : Type 0} (o : Option F) (x : Unit) → Ok x ≡ answered o → None ≡ o
answered_ok None x e = refl
answered_ok (Some f) x e = grind arith

pub answered_err : {F : Type 0} (o : Option F) (f : F) → Err f ≡ answered o → Some f ≡ o
answered_err (Some g) f e = grind arith
answered_err None f e = grind arith

pub both_none : {F : Type 0} (a b : Option F) → option_or a b ≡ None → (a ≡ None) × (b ≡ None)
both_none None b e = (refl, e)
both_none (Some f) b e = absurd (none-some f (sym e))

pub after_none : {F : Type 0} (a b : Option F) → a ≡ None → option_or a b ≡ b
after_none None b e = refl
after_none (Some f) b e = absurd (none-some f (sym e))

-- One link more that is not refused.
pub refusal_more : (nodes j : ℕ) (ls : List Link) (i : ℕ) (d : Link) → i < length ls → first_refusal nodes j (take i ls) ≡ None →
    refusal nodes (j + i) (slice_index_or ls i d) ≡ None → first_refusal nodes j (take (suc i) ls) ≡ None
refusal_more nodes j [] i d lt before here = absurd (omega arith)
refusal_more nodes j (l ∷ ls) zero d lt before here =
    after_none (refusal nodes j l) None (rw (add-zero j) at here)
refusal_more nodes j (l ∷ ls) (suc i) d lt before here =
    let both = both_none (refusal nodes j l) (first_refusal nodes (j + 1) (take i ls)) before in
    let same : j + suc i ≡ j + 1 + i = omega arith in
    after_none (refusal nodes j l) (first_refusal nodes (j + 1) (take (suc i) ls)) both.0
    ∙ refusal_more nodes (j + 1) ls i d (omega arith) both.1 (subst (λ k. refusal nodes k (slice_index_or ls i d) ≡ None) same here)

-- The first link that is refused.
pub refusal_at : (nodes j : ℕ) (ls : List Link) (i : ℕ) (d : Link) (f : DraftFault) → i < length ls → first_refusal nodes j (take i ls) ≡ None →
    refusal nodes (j + i) (slice_index_or ls i d) ≡ Some f → first_refusal nodes j ls ≡ Some f
refusal_at nodes j [] i d f lt before here = absurd (omega arith)
refusal_at nodes j (l ∷ ls) zero d f lt before here =
    ap (λ o. option_or o (first_refusal nodes (j + 1) ls)) (rw (add-zero j) at here)
refusal_at nodes j (l ∷ ls) (suc i) d f lt before here =
    let both = both_none (refusal nodes j l) (first_refusal nodes (j + 1) (take i ls)) before in
    let same : j + suc i ≡ j + 1 + i = omega arith in
    after_none (refusal nodes j l) (first_refusal nodes (j + 1) ls) both.0
    ∙ refusal_at nodes (j + 1) ls i d f (omega arith) both.1 (subst (λ k. refusal nodes k (slice_index_or ls i d) ≡ Some f) same here)

-- The same of a network that is to have so many nodes and these links.
count_right : {F : Type 0} (wrong : Bool) (f : F) (o : Option F) → cond wrong (Some f) o ≡ None → (wrong ≡ false) × (o ≡ None)
count_right true f o e = absurd (none-some f (sym e))
count_right false f o e = (refl, e)

pub fault_more : (nodes : ℕ) (ls : List Link) (i : ℕ) (d : Link) → i < length ls → network_fault nodes (take i ls) ≡ None →
    refusal nodes i (slice_index_or ls i d) ≡ None → network_fault nodes (take (i + 1) ls) ≡ None
fault_more nodes ls i d lt e here =
    let (count, before) = count_right (nodes == 0 || nat_lt 256 nodes) _ _ e in
    cond-false _ _ _ count ∙ rw (add-one i) (refusal_more nodes 0 ls i d lt before (rw (zero-add i) here))

pub fault_at : (nodes : ℕ) (ls : List Link) (i : ℕ) (d : Link) (f : DraftFault) → i < length ls → network_fault nodes (take i ls) ≡ None →
    refusal nodes i (slice_index_or ls i d) ≡ Some f → network_fault nodes ls ≡ Some f
fault_at nodes ls i d f lt e here =
    let (count, before) = count_right (nodes == 0 || nat_lt 256 nodes) _ _ e in
    cond-false _ _ _ count ∙ refusal_at nodes 0 ls i d f lt before (rw (zero-add i) here)

-- What `add` answers and leaves, where the draft has the first i of the links.
pub added_more : (nodes : ℕ) (ls : List Link) (i : ℕ) (d : Link) (k : ℕ) (old new : Net) → i < length ls → old ≡ listed nodes (take i ls) →
    Added old (slice_index_or ls i d) (Ok k) new → (refusal nodes i (slice_index_or ls i d) ≡ None) × (new ≡ listed nodes (take (i + 1) ls))
added_more nodes ls i d k old new lt same added =
    let (none, _, more) = subst (λ o. Added o (slice_index_or ls i d) (Ok k) new) same added in
    let count : length (map Some (take i ls)) ≡ i = length-map (take i ls) Some ∙ length-take-le i ls (omega arith) in (
      subst (λ j. refusal nodes j (slice_index_or ls i d) ≡ None) count none,
      more ∙ ap (λ ps. record { nodes = nodes; places = ps }) (sym (ap (map Some) (take_more ls i d lt) ∙ map_push Some (take i ls) (slice_index_or ls i d))),
    )

pub added_not : (nodes : ℕ) (ls : List Link) (i : ℕ) (d : Link) (f : DraftFault) (old new : Net) → i < length ls → old ≡ listed nodes (take i ls) →
    network_fault nodes (take i ls) ≡ None → Added old (slice_index_or ls i d) (Err f) new → (network_fault nodes ls ≡ Some f) ⊎ (f ≡ NoMemory)
added_not nodes ls i d f old new lt same before added =
    let (fault, _) = subst (λ o. Added o (slice_index_or ls i d) (Err f) new) same added in
    let count : length (map Some (take i ls)) ≡ i = length-map (take i ls) Some ∙ length-take-le i ls (omega arith) in
    which (refusal nodes i (slice_index_or ls i d)) refl (subst (λ j. f ≡ or_memory (refusal nodes j (slice_index_or ls i d))) count fault)
  where
    which : (o : Option DraftFault) → refusal nodes i (slice_index_or ls i d) ≡ o → f ≡ or_memory o → (network_fault nodes ls ≡ Some f) ⊎ (f ≡ NoMemory)
    which None e g = inr g
    which (Some x) e g = inl (fault_at nodes ls i d f lt before (e ∙ ap Some (sym g)))
