-- What a draft and a book stand for, and what each call of a draft does.
use Rattle.std.specs.Prelude.{◌≡◌, ℕ, ◌+◌, ◌≤◌, cond, ◌||◌, ◌⊎◌, List, [], ◌∷◌, ◌++◌, length, Some, None, Ok, Err, vec_items, Option, Result, ◌==◌, nat_le, nat_lt}
use Rattle.std.specs.Option.{option_or}
use Rattle.std.proofs.Common.{arith}
use Rattle.std.proofs.lemmas.List.{length-map}
use Rattle.definitions.specs.declared.Link.{Link}
use Rattle.definitions.specs.Networks.{Net, Limits, listed}
use Rattle.networks.specs.declared.draft.Draft.{Draft}
use Rattle.networks.specs.declared.draft.Book.{Book}
use Rattle.networks.specs.declared.draft.DraftFault.{DraftFault}
use Rattle.networks.specs.declared.draft.DraftFault.TheVariants.{NodeCount, Full, TailBeyond, HeadBeyond, SameEnds, NoMemory}

-- The network that a draft has so far.
abbrev pub drafted : Draft → Net
drafted d = listed d.table.nodes (vec_items d.table.links)

-- The network of a book.
abbrev pub booked : Book → Net
booked b = listed b.table.nodes (vec_items b.table.links)

-- The questions put before a link fills a place, in order; the first that is answered with no refuses.
abbrev pub refusal : ℕ → ℕ → Link → Option DraftFault
refusal nodes place l =
    cond (nat_le 1024 place) (Some (Full place))
    (cond (nat_le nodes l.tail) (Some (TailBeyond place))
    (cond (nat_le nodes l.head) (Some (HeadBeyond place))
    (cond (l.tail == l.head) (Some (SameEnds place)) None)))

-- The answer of a check that found this fault, or none.
abbrev pub answered : {F : Type 0} → Option F → Result Unit F
answered None = Ok tt
answered (Some f) = Err f

-- The fault of an add that was refused: that of the questions, and where they found none, want of memory.
abbrev pub or_memory : Option DraftFault → DraftFault
or_memory (Some f) = f
or_memory None = NoMemory

-- What add answers and leaves: one more link at the end, or a fault and no change.
abbrev pub Added : Net → Link → Result ℕ DraftFault → Net → Type 0
Added old l (Ok k) new =
    (refusal old.nodes (length old.places) l ≡ None) × (k ≡ length old.places) × (new ≡ record { nodes = old.nodes; places = old.places ++ (Some l ∷ []) })
Added old l (Err f) new = (f ≡ or_memory (refusal old.nodes (length old.places) l)) × (new ≡ old)

-- What size answers and leaves: the node count set and no link left, or a fault and no change.
abbrev pub Sized : Net → ℕ → Result Unit DraftFault → Net → Type 0
Sized old count (Ok _) new = (1 ≤ count) × (count ≤ 256) × (new ≡ listed count [])
Sized old count (Err f) new = ((1 ≤ count) → (count ≤ 256) → ⊥) × (f ≡ NodeCount count) × (new ≡ old)

-- The first fault of these links, the first of which fills place k of so many nodes.
abbrev pub first_refusal : ℕ → ℕ → List Link → Option DraftFault
first_refusal nodes k [] = None
first_refusal nodes k (l ∷ ls) = option_or (refusal nodes k l) (first_refusal nodes (k + 1) ls)

-- The first fault of a network that is to have so many nodes and these links.
abbrev pub network_fault : ℕ → List Link → Option DraftFault
network_fault nodes links = cond (nodes == 0 || nat_lt 256 nodes) (Some (NodeCount nodes)) (first_refusal nodes 0 links)

-- A network of so many nodes and these links in their order, or the first fault; or there was no memory.
abbrev pub Laid : ℕ → List Link → Result Book DraftFault → Type 0
Laid nodes links (Ok b) = (network_fault nodes links ≡ None) × (booked b ≡ listed nodes links)
Laid nodes links (Err f) = (network_fault nodes links ≡ Some f) ⊎ (f ≡ NoMemory)

-- A book keeps the limits, since its table does.
pub booked_limits : (b : Book) → Limits (booked b)
booked_limits b = record {
  few_nodes = b.table.few;
  few_places = rw (length-map (vec_items b.table.links) Some) (omega (arith, b.table.links.ok.0, b.table.short));
  sound = b.table.sound;
}
