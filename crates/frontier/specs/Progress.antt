-- How far a loop has come: what holds of the index while it is made, and of the two searches between their turns.
-- No promise of a public call rests on these.
use Rattle.std.specs.Prelude.{◌≡◌, ℕ, ◌+◌, ◌<◌, ◌≤◌, Bool, false, not, List, length, take, is_some, Some, None, Option, ◌==◌}
use Rattle.std.specs.List.{count_by, Contains}
use Rattle.definitions.specs.declared.Link.{Link}
use Rattle.definitions.specs.Networks.{Net, Holds, place}
use Rattle.definitions.specs.Measures.{Scale}
use Rattle.definitions.specs.Routes.{Valuation}
use Rattle.definitions.specs.Searches.{given, Labels, Running, Stepping}
use Rattle.heap.specs.declared.Heap.{Heap}
use Rattle.heap.specs.Heaps.{Heaped}
use Rattle.heap.specs.Holds.{held, capacity}
use Rattle.frontier.specs.declared.entries.Candidate.{Candidate}
use Rattle.frontier.specs.declared.entries.Settled.{Settled}
use Rattle.frontier.specs.declared.entries.Hop.{Hop}
use Rattle.frontier.specs.declared.index.Index.{Index}
use Rattle.frontier.specs.Orders.{ValueBefore, StepsBefore}
use Rattle.frontier.specs.declared.index.LinksInto.{LinksInto}
use Rattle.frontier.specs.Indexes.{UpTo, Falling, Indexed}
use Rattle.frontier.specs.Hops.{NoNext}

-- The head of the link that a place holds.
abbrev pub head_of : Option Link → Option ℕ
head_of None = None
head_of (Some l) = Some l.head

-- `first` and `next` are an index of the links at the places below n.
pub record IndexedBelow (net : Net) (first next : ℕ → Option ℕ) (n : ℕ) : Type 0 where
  pub first_owned : (u j : ℕ) → first u ≡ Some j → (j < n) × (head_of (place net.places j) ≡ Some u)
  pub falls : Falling next
  pub next_owned : (u j i : ℕ) → head_of (place net.places j) ≡ Some u → next j ≡ Some i → head_of (place net.places i) ≡ Some u
  pub first_covers : (k : ℕ) (l : Link) → k < n → Holds net k l → UpTo k (first l.head)
  pub next_covers : (u j k : ℕ) (l : Link) → j < n → head_of (place net.places j) ≡ Some u → Holds net k l → l.head ≡ u → k < j → UpTo k (next j)

-- The index while it is made: the places below n are entered.
abbrev pub Indexing : Net → Index → ℕ → Type 0
Indexing net index n = IndexedBelow net (place index.first) (place index.next) n

-- The lowest number above the given place; 0 where there is none.
abbrev pub above : Option ℕ → ℕ
above None = 0
above (Some j) = j + 1

-- The given place, if there is one, belongs to u.
abbrev pub Owns : (ℕ → Option ℕ) → ℕ → Option ℕ → Type 0
Owns owner u None = Unit {0}
Owns owner u (Some j) = owner j ≡ Some u

-- The walk goes by an index of the network, and stands at a place of u or at its end.
abbrev pub Along : Net → ℕ → LinksInto → Type 0
Along net u s = (I : Indexed net (place s.index.now.first) (place s.index.now.next)) × Owns I.owner u s.cursor

-- Of the links into u, those from place b on have been offered.
abbrev pub Due : ℕ → ℕ → ℕ → Link → Type 0
Due u b k l = l.head ≡ u → b ≤ k

-- The place holds a link into u.
abbrev pub leads_to : ℕ → Option Link → Bool
leads_to u None = false
leads_to u (Some l) = l.head == u

-- The place holds a link into a node without a label.
abbrev pub leads_on : (ℕ → Option ℕ) → Option Link → Bool
leads_on d None = false
leads_on d (Some l) = not (is_some (d l.head))

-- How many of the first n places hold a link into u.
abbrev pub links_into : Net → ℕ → ℕ → ℕ
links_into net u n = count_by (leads_to u) (take n net.places)

-- How many links lead to a node without a label. Each of them may still be offered, once.
abbrev pub links_open : Net → (ℕ → Option ℕ) → ℕ
links_open net d = count_by (leads_on d) net.places

-- The entries hold the value w for the node u.
abbrev pub Waiting : List Candidate → ℕ → ℕ → Type 0
Waiting es w u = Contains es (record { value = w; node = u })

-- What has become of a heap since `from` was settled, where of the links into it those from place b on
-- have been offered.
pub record Offering (m : Scale) (r : ℕ → Option ℕ) (net : Net) (d : ℕ → Option ℕ) (from : Candidate) (old new : Heap Candidate) (b : ℕ) : Type 0 where
  pub order : Heaped (ValueBefore m) (held new)
  pub few : length (held new) + links_into net from.node b ≤ length (held old) + links_into net from.node (length net.places)
  pub room : capacity new ≡ capacity old
  pub offered : (t : ℕ) → d from.node ≡ Some from.value →
      Running (given m r) net t d (Waiting (held old)) (Due from.node (length net.places)) from.value →
      Running (given m r) net t d (Waiting (held new)) (Due from.node b) from.value

-- The search for the best values between two turns of its loop.
pub record Searching (m : Scale) (r : ℕ → Option ℕ) (net : Net) (t : ℕ) (values : List (Option ℕ)) (heap : Heap Candidate) : Type 0 where
  pub order : Heaped (ValueBefore m) (held heap)
  pub nodes : net.nodes ≤ length values
  pub room : length (held heap) + links_open net (place values) ≤ capacity heap
  pub last : ℕ
  pub running : Running (given m r) net t (place values) (Waiting (held heap)) (λ k l. Unit {0}) last

-- The entries hold the link k with n steps.
abbrev pub Hopping : List Hop → ℕ → ℕ → Type 0
Hopping es n k = Contains es (record { steps = n; link = k })

-- What has become of a heap since `from` got its steps, where of the links into it those from place b on
-- have been offered.
pub record HopOffering (ρ : Valuation) (net : Net) (d s : ℕ → Option ℕ) (from : Settled) (old new : Heap Hop) (b : ℕ) : Type 0 where
  pub order : Heaped StepsBefore (held new)
  pub few : length (held new) + links_into net from.node b ≤ length (held old) + links_into net from.node (length net.places)
  pub room : capacity new ≡ capacity old
  pub offered : (t : ℕ) (nx : ℕ → Option ℕ) → Labels ρ net t d → s from.node ≡ Some from.steps →
      Stepping ρ net t s nx (Hopping (held old)) (Due from.node (length net.places)) from.steps →
      Stepping ρ net t s nx (Hopping (held new)) (Due from.node b) from.steps

-- The search for steps and next links between two turns of its loop.
pub record Walking (ρ : Valuation) (net : Net) (t : ℕ) (steps nexts : List (Option ℕ)) (heap : Heap Hop) : Type 0 where
  pub order : Heaped StepsBefore (held heap)
  pub nodes : net.nodes ≤ length steps
  pub next_nodes : net.nodes ≤ length nexts
  pub room : length net.places ≤ capacity heap
  pub last : ℕ
  pub left : last + (length (held heap) + links_open net (place steps)) ≤ length net.places
  pub running : Stepping ρ net t (place steps) (place nexts) (Hopping (held heap)) (λ k l. Unit {0}) last
  pub idle : NoNext t (place steps) (place nexts)
