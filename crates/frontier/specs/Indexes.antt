-- An index of the links into each node.
use Rattle.std.specs.Prelude.{◌≡◌, ℕ, ◌<◌, ◌≤◌, length, Some, None, Option, option_and_then, nat_lt, cond}
use Rattle.definitions.specs.declared.Link.{Link}
use Rattle.definitions.specs.Networks.{Net, Holds, place}
use Rattle.frontier.specs.declared.index.LinksInto.{LinksInto}

-- There is a place, and i is not above it.
abbrev pub UpTo : ℕ → Option ℕ → Type 0
UpTo i None = ⊥
UpTo i (Some j) = i ≤ j

-- From each place it leads to a lower one.
abbrev pub Falling : (ℕ → Option ℕ) → Type 0
Falling next = (j i : ℕ) → next j ≡ Some i → i < j

-- `first` leads to the highest place of each node, and `next` from a place to the next lower of the same node; no link into
-- the node is passed over. Each place belongs to at most one node. A place that belongs to a node need hold no link, so an
-- index of a network is an index of each of its layers too.
pub record Indexed (net : Net) (first next : ℕ → Option ℕ) : Type 0 where
  pub owner : ℕ → Option ℕ
  pub first_owned : (u j : ℕ) → first u ≡ Some j → (j < length net.places) × (owner j ≡ Some u)
  pub falls : Falling next
  pub next_owned : (u j i : ℕ) → owner j ≡ Some u → next j ≡ Some i → owner i ≡ Some u
  pub first_covers : (k : ℕ) (l : Link) → Holds net k l → UpTo k (first l.head)
  pub next_covers : (u j k : ℕ) (l : Link) → owner j ≡ Some u → Holds net k l → l.head ≡ u → k < j → UpTo k (next j)

-- The place, if it is below j. In an index of a network that is so of each place that j leads to.
abbrev pub lower : ℕ → Option ℕ → Option ℕ
lower j None = None
lower j (Some i) = cond (nat_lt i j) (Some i) None

-- One step along the links into a node: it gives the place that it stands at, if any, and goes to the next lower.
abbrev pub Stepped : LinksInto → Option ℕ → LinksInto → Type 0
Stepped s k t = (k ≡ s.cursor) × (t.index.now ≡ s.index.now) × (t.cursor ≡ option_and_then (λ j. lower j (place s.index.now.next j)) s.cursor)
