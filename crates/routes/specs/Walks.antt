-- Walks along next links, and the plain value of the places of a route.
use Rattle.std.specs.Prelude.{◌≡◌, ℕ, ◌<◌, ◌≤◌, true, false, ◌⊎◌, List, [], ◌∷◌, ◌++◌, length, drop, Some, None, Ok, Err, Option, Result, unwrap_or}
use Rattle.definitions.specs.declared.Link.{Link}
use Rattle.definitions.specs.declared.Failure.{Failure}
use Rattle.definitions.specs.Networks.{Net, place, failed}
use Rattle.definitions.specs.Measures.{Scale}
use Rattle.frontier.specs.declared.record.NodeRecord.{NodeRecord}
use Rattle.routes.specs.declared.walk.NoRoom.{NoRoom}
use Rattle.routes.specs.Records.{Leads, steps_of, next_of}

-- How many links the held route of u has by the records: its steps, and none where the search did not reach it.
abbrev pub links_of : List NodeRecord → ℕ → ℕ
links_of rs u = unwrap_or (steps_of rs u) 0

-- v extended by the figure of the link, if there is one
abbrev pub extended : Scale → Option Link → ℕ → ℕ
extended m None v = v
extended m (Some l) v = m.extend v l.figure

-- the starting value, extended by the figures from the last to the first
abbrev pub plain_value : Scale → Net → List ℕ → ℕ
plain_value m net [] = m.start
plain_value m net (k ∷ ks) = extended m (place net.places k) (plain_value m net ks)

-- None of the places has failed.
abbrev pub Spared : Net → Failure → List ℕ → Type 0
Spared net f [] = Unit {0}
Spared net f (k ∷ ks) = (failed net f k ≡ false) × Spared net f ks

-- The first of the places has failed.
abbrev pub Blocked : Net → Failure → List ℕ → Type 0
Blocked net f [] = ⊥
Blocked net f (k ∷ ks) = failed net f k ≡ true

-- Of a way from u to t that leads along the next links of the records, the walk ends at the node v after c links: none of
-- these has failed, and v is t, or the next link there has failed.
abbrev pub Turned : Net → List NodeRecord → ℕ → Failure → ℕ → ℕ → ℕ → Type 0
Turned net rs t f u v c = (ks : List ℕ) → Leads net (next_of rs) t u ks → length ks < length rs →
    (js : List ℕ) × (is : List ℕ) × (js ++ is ≡ ks) × Leads net (next_of rs) v u js × (length js ≡ c) × Spared net f js × ((v ≡ t) ⊎ Blocked net f is)

-- What a buffer holds once the places ks are written at its start.
abbrev pub written : List ℕ → List ℕ → List ℕ
written ks buffer = ks ++ drop (length ks) buffer

-- Over c entries at the start of a buffer the places along the next links from u are written, if there are so many.
pub record Fronted (net : Net) (rs : List NodeRecord) (u c : ℕ) (buffer buffer' : List ℕ) : Type 0 where
  pub front : List ℕ
  pub long : length front ≡ c
  pub rest : buffer' ≡ front ++ drop c buffer
  pub along : (e : ℕ) (ks : List ℕ) → Leads net (next_of rs) e u ks → length ks ≡ c → front ≡ ks

-- The places of a node's held route, as many as its steps c, stand at the start of the buffer and the rest of it is as
-- before; or the buffer is too short, so many entries are needed, and nothing is written.
abbrev pub RouteWritten : Net → List NodeRecord → ℕ → List ℕ → Result ℕ NoRoom → List ℕ → Type 0
RouteWritten net rs u buffer r buffer' =
    ((links_of rs u ≤ length buffer) × (r ≡ Ok (links_of rs u)) × Fronted net rs u (links_of rs u) buffer buffer')
    ⊎ ((length buffer < links_of rs u) × (r ≡ Err (record { needed = links_of rs u })) × (buffer' ≡ buffer))
