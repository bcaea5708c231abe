-- The example network, and what is known of it: one table, with the destination 3.
use Rattle.std.specs.Prelude.{◌≡◌, ℕ, Bool, true, false, ◌||◌, ◌↔◌, List, [], ◌∷◌, Some, Option, ◌==◌}
use Rattle.definitions.specs.declared.Link.{Link}
use Rattle.definitions.specs.declared.Failure.{Failure}
use Rattle.definitions.specs.declared.Failure.TheVariants.{Nothing, OneLink, OneGroup}
use Rattle.definitions.specs.Networks.{Net, Holds, failed, withdrawn}
use Rattle.definitions.specs.Measures.{Scale, delay, width}
use Rattle.definitions.specs.Routes.{RouteValue, NoRoute, Tight, Steps, Next, Held}
use Rattle.definitions.specs.Plans.{plain, worst, Recovery, BackedUp, Guarantee, Backup, Traced, Planned}

-- What can be said of a network, a measure and a destination. Nodes are u, places k, lists of places ks.
pub data Claim : Type 0 where
  -- k has the recovery value r; k is not backed up
  recovery : ℕ → ℕ → Claim
  no_recovery : ℕ → Claim
  -- the route ks from u has the worst value v
  worst_value : ℕ → List ℕ → ℕ → Claim
  -- u has the guarantee g; u has none
  guarantee : ℕ → ℕ → Claim
  no_guarantee : ℕ → Claim
  -- so many nodes have a guarantee
  planned : ℕ → Claim
  -- ks are the tight links, and there are no others
  tight_links : List ℕ → Claim
  -- u has n steps, the next link k, the held route ks, and ks as the backup of its next link
  steps : ℕ → ℕ → Claim
  next_link : ℕ → ℕ → Claim
  held : ℕ → List ℕ → Claim
  backup : ℕ → List ℕ → Claim
  -- after each of these failures the trace from u is ks, with the plain value v
  trace : ℕ → List Failure → List ℕ → ℕ → Claim

-- k is one of the places.
abbrev pub among : ℕ → List ℕ → Bool
among k [] = false
among k (j ∷ js) = k == j || among k js

-- After each of the failures the trace from u is ks.
abbrev pub TracedAll : Scale → Net → ℕ → ℕ → List ℕ → List Failure → Type 0
TracedAll m net t u ks [] = Unit {0}
TracedAll m net t u ks (f ∷ fs) = Traced m net t (failed net f) u ks × TracedAll m net t u ks fs

abbrev pub True : Scale → Net → ℕ → Claim → Type 0
True m net t (recovery k r) = (l : Link) × Holds net k l × Recovery m net t k l r
True m net t (no_recovery k) = (l : Link) × Holds net k l × (BackedUp net t k l → ⊥)
True m net t (worst_value u ks v) = RouteValue (worst m net t) net t u ks v
True m net t (guarantee u g) = Guarantee m net t u g
True m net t (no_guarantee u) = NoRoute (worst m net t) net t u
True m net t (planned c) = Planned m net t c
True m net t (tight_links ks) = (k : ℕ) (l : Link) → Holds net k l → Tight (worst m net t) net t k l ↔ (among k ks ≡ true)
True m net t (steps u n) = Steps (worst m net t) net t u n
True m net t (next_link u k) = (l : Link) × Next (worst m net t) net t u k l
True m net t (held u ks) = Held (worst m net t) net t u ks
True m net t (backup u ks) = (k : ℕ) × (l : Link) × Next (worst m net t) net t u k l × Backup m net t k ks
True m net t (trace u fs ks v) = TracedAll m net t u ks fs × RouteValue (plain m) net t u ks v

-- The measures that the cases name.
pub data Kind : Type 0 where
  by_delay by_width : Kind

abbrev pub scale : Kind → Scale
scale by_delay = delay
scale by_width = width

-- A network under a measure, with what is claimed of it.
pub record Case : Type 0 where
  pub kind : Kind
  pub network : Net
  pub claims : List Claim

abbrev pub AllTrue : Scale → Net → ℕ → List Claim → Type 0
AllTrue m net t [] = Unit {0}
AllTrue m net t (c ∷ cs) = True m net t c × AllTrue m net t cs

abbrev pub AllCases : ℕ → List Case → Type 0
AllCases t [] = Unit {0}
AllCases t (c ∷ cs) = AllTrue (scale c.kind) c.network t c.claims × AllCases t cs

abbrev link : ℕ → ℕ → ℕ → ℕ → Option Link
link u v f g = Some (record { tail = u; head = v; figure = f; groups = g })

-- Four nodes and six links; a is what groups links 1 and 3 have (1 is group 0).
abbrev pub example : ℕ → Net
example a = record {
  nodes = 4;
  places = link 0 1 2 0 ∷ link 1 3 3 a ∷ link 1 2 9 0 ∷ link 2 3 4 a ∷ link 0 2 5 0 ∷ link 2 1 2 0 ∷ [];
}

-- The network with link 4 withdrawn.
abbrev pub less_4 : Net → Net
less_4 net = withdrawn (false ∷ false ∷ false ∷ false ∷ true ∷ []) net

-- Delay.
abbrev under_delay : List Claim
under_delay =
    recovery 0 9 ∷ recovery 1 13 ∷ recovery 2 3 ∷ recovery 3 5 ∷ recovery 4 5 ∷ recovery 5 4 ∷
    guarantee 0 10 ∷ guarantee 1 13 ∷ guarantee 2 5 ∷ guarantee 3 0 ∷ planned 4 ∷
    worst_value 0 (0 ∷ 1 ∷ []) 15 ∷ worst_value 0 (0 ∷ 2 ∷ 3 ∷ []) 16 ∷ worst_value 0 (4 ∷ 3 ∷ []) 10 ∷
    worst_value 0 (4 ∷ 5 ∷ 1 ∷ []) 20 ∷ worst_value 1 (1 ∷ []) 13 ∷ worst_value 1 (2 ∷ 3 ∷ []) 14 ∷
    worst_value 2 (3 ∷ []) 5 ∷ worst_value 2 (5 ∷ 1 ∷ []) 15 ∷ worst_value 3 [] 0 ∷
    tight_links (1 ∷ 3 ∷ 4 ∷ []) ∷ steps 0 2 ∷ steps 1 1 ∷ steps 2 1 ∷ steps 3 0 ∷
    next_link 0 4 ∷ next_link 1 1 ∷ next_link 2 3 ∷
    held 0 (4 ∷ 3 ∷ []) ∷ held 1 (1 ∷ []) ∷ held 2 (3 ∷ []) ∷ held 3 [] ∷
    backup 0 (0 ∷ 1 ∷ []) ∷ backup 1 (2 ∷ 3 ∷ []) ∷ backup 2 (5 ∷ 1 ∷ []) ∷
    trace 0 (Nothing ∷ OneLink 0 ∷ OneLink 1 ∷ OneLink 2 ∷ OneLink 5 ∷ OneGroup 0 ∷ []) (4 ∷ 3 ∷ []) 9 ∷
    trace 0 (OneLink 3 ∷ []) (4 ∷ 5 ∷ 1 ∷ []) 10 ∷
    trace 0 (OneLink 4 ∷ []) (0 ∷ 1 ∷ []) 5 ∷
    trace 1 (Nothing ∷ OneLink 0 ∷ OneLink 2 ∷ OneLink 3 ∷ OneLink 4 ∷ OneLink 5 ∷ OneGroup 0 ∷ []) (1 ∷ []) 3 ∷
    trace 1 (OneLink 1 ∷ []) (2 ∷ 3 ∷ []) 13 ∷
    trace 2 (Nothing ∷ OneLink 0 ∷ OneLink 1 ∷ OneLink 2 ∷ OneLink 4 ∷ OneLink 5 ∷ OneGroup 0 ∷ []) (3 ∷ []) 4 ∷
    trace 2 (OneLink 3 ∷ []) (5 ∷ 1 ∷ []) 5 ∷
    trace 3 (Nothing ∷ OneLink 0 ∷ OneLink 1 ∷ OneLink 2 ∷ OneLink 3 ∷ OneLink 4 ∷ OneLink 5 ∷ OneGroup 0 ∷ []) [] 0 ∷
    []

-- Width.
abbrev under_width : List Claim
under_width =
    recovery 0 4 ∷ recovery 1 4 ∷ recovery 2 3 ∷ recovery 3 2 ∷ recovery 4 2 ∷ recovery 5 4 ∷
    guarantee 0 2 ∷ guarantee 1 3 ∷ guarantee 2 2 ∷ guarantee 3 4294967295 ∷ planned 4 ∷
    worst_value 0 (0 ∷ 1 ∷ []) 2 ∷ worst_value 0 (0 ∷ 2 ∷ 3 ∷ []) 2 ∷ worst_value 0 (4 ∷ 3 ∷ []) 2 ∷
    worst_value 0 (4 ∷ 5 ∷ 1 ∷ []) 2 ∷ worst_value 1 (1 ∷ []) 3 ∷ worst_value 1 (2 ∷ 3 ∷ []) 2 ∷
    worst_value 2 (3 ∷ []) 2 ∷ worst_value 2 (5 ∷ 1 ∷ []) 2 ∷ worst_value 3 [] 4294967295 ∷
    tight_links (0 ∷ 1 ∷ 3 ∷ 4 ∷ 5 ∷ []) ∷ steps 0 2 ∷ steps 1 1 ∷ steps 2 1 ∷ steps 3 0 ∷
    next_link 0 0 ∷ next_link 1 1 ∷ next_link 2 3 ∷
    held 0 (0 ∷ 1 ∷ []) ∷ held 1 (1 ∷ []) ∷ held 2 (3 ∷ []) ∷ held 3 [] ∷
    backup 0 (4 ∷ 3 ∷ []) ∷ backup 1 (2 ∷ 3 ∷ []) ∷ backup 2 (5 ∷ 1 ∷ []) ∷
    trace 0 (Nothing ∷ OneLink 2 ∷ OneLink 3 ∷ OneLink 4 ∷ OneLink 5 ∷ OneGroup 0 ∷ []) (0 ∷ 1 ∷ []) 2 ∷
    trace 0 (OneLink 0 ∷ []) (4 ∷ 3 ∷ []) 4 ∷
    trace 0 (OneLink 1 ∷ []) (0 ∷ 2 ∷ 3 ∷ []) 2 ∷
    trace 1 (Nothing ∷ OneLink 0 ∷ OneLink 2 ∷ OneLink 3 ∷ OneLink 4 ∷ OneLink 5 ∷ OneGroup 0 ∷ []) (1 ∷ []) 3 ∷
    trace 1 (OneLink 1 ∷ []) (2 ∷ 3 ∷ []) 4 ∷
    trace 2 (Nothing ∷ OneLink 0 ∷ OneLink 1 ∷ OneLink 2 ∷ OneLink 4 ∷ OneLink 5 ∷ OneGroup 0 ∷ []) (3 ∷ []) 4 ∷
    trace 2 (OneLink 3 ∷ []) (5 ∷ 1 ∷ []) 2 ∷
    trace 3 (Nothing ∷ OneLink 0 ∷ OneLink 1 ∷ OneLink 2 ∷ OneLink 3 ∷ OneLink 4 ∷ OneLink 5 ∷ OneGroup 0 ∷ []) [] 4294967295 ∷
    []

-- Delay, with links 1 and 3 in group 0.
abbrev under_delay_shared : List Claim
under_delay_shared =
    recovery 0 9 ∷ no_recovery 1 ∷ recovery 2 3 ∷ no_recovery 3 ∷ recovery 4 5 ∷ recovery 5 4 ∷
    no_guarantee 0 ∷ no_guarantee 1 ∷ no_guarantee 2 ∷ guarantee 3 0 ∷ planned 1 ∷
    worst_value 3 [] 0 ∷
    tight_links [] ∷ steps 3 0 ∷
    held 3 [] ∷
    trace 3 (Nothing ∷ OneLink 0 ∷ OneLink 1 ∷ OneLink 2 ∷ OneLink 3 ∷ OneLink 4 ∷ OneLink 5 ∷ OneGroup 0 ∷ []) [] 0 ∷
    []

-- Width, with links 1 and 3 in group 0.
abbrev under_width_shared : List Claim
under_width_shared =
    recovery 0 4 ∷ no_recovery 1 ∷ recovery 2 3 ∷ no_recovery 3 ∷ recovery 4 2 ∷ recovery 5 4 ∷
    no_guarantee 0 ∷ no_guarantee 1 ∷ no_guarantee 2 ∷ guarantee 3 4294967295 ∷ planned 1 ∷
    worst_value 3 [] 4294967295 ∷
    tight_links [] ∷ steps 3 0 ∷
    held 3 [] ∷
    trace 3 (Nothing ∷ OneLink 0 ∷ OneLink 1 ∷ OneLink 2 ∷ OneLink 3 ∷ OneLink 4 ∷ OneLink 5 ∷ OneGroup 0 ∷ []) [] 4294967295 ∷
    []

-- Delay, with link 4 withdrawn.
abbrev under_delay_withdrawn : List Claim
under_delay_withdrawn =
    no_recovery 0 ∷ recovery 1 13 ∷ recovery 2 3 ∷ recovery 3 5 ∷ recovery 5 4 ∷
    no_guarantee 0 ∷ guarantee 1 13 ∷ guarantee 2 5 ∷ guarantee 3 0 ∷ planned 3 ∷
    worst_value 1 (1 ∷ []) 13 ∷ worst_value 1 (2 ∷ 3 ∷ []) 14 ∷ worst_value 2 (3 ∷ []) 5 ∷
    worst_value 2 (5 ∷ 1 ∷ []) 15 ∷ worst_value 3 [] 0 ∷
    tight_links (1 ∷ 3 ∷ []) ∷ steps 1 1 ∷ steps 2 1 ∷ steps 3 0 ∷
    next_link 1 1 ∷ next_link 2 3 ∷
    held 1 (1 ∷ []) ∷ held 2 (3 ∷ []) ∷ held 3 [] ∷
    backup 1 (2 ∷ 3 ∷ []) ∷ backup 2 (5 ∷ 1 ∷ []) ∷
    trace 1 (Nothing ∷ OneLink 0 ∷ OneLink 2 ∷ OneLink 3 ∷ OneLink 4 ∷ OneLink 5 ∷ OneGroup 0 ∷ []) (1 ∷ []) 3 ∷
    trace 1 (OneLink 1 ∷ []) (2 ∷ 3 ∷ []) 13 ∷
    trace 2 (Nothing ∷ OneLink 0 ∷ OneLink 1 ∷ OneLink 2 ∷ OneLink 4 ∷ OneLink 5 ∷ OneGroup 0 ∷ []) (3 ∷ []) 4 ∷
    trace 2 (OneLink 3 ∷ []) (5 ∷ 1 ∷ []) 5 ∷
    trace 3 (Nothing ∷ OneLink 0 ∷ OneLink 1 ∷ OneLink 2 ∷ OneLink 3 ∷ OneLink 4 ∷ OneLink 5 ∷ OneGroup 0 ∷ []) [] 0 ∷
    []

-- Width, with link 4 withdrawn.
abbrev under_width_withdrawn : List Claim
under_width_withdrawn =
    no_recovery 0 ∷ recovery 1 4 ∷ recovery 2 3 ∷ recovery 3 2 ∷ recovery 5 4 ∷
    no_guarantee 0 ∷ guarantee 1 3 ∷ guarantee 2 2 ∷ guarantee 3 4294967295 ∷ planned 3 ∷
    worst_value 1 (1 ∷ []) 3 ∷ worst_value 1 (2 ∷ 3 ∷ []) 2 ∷ worst_value 2 (3 ∷ []) 2 ∷
    worst_value 2 (5 ∷ 1 ∷ []) 2 ∷ worst_value 3 [] 4294967295 ∷
    tight_links (1 ∷ 3 ∷ 5 ∷ []) ∷ steps 1 1 ∷ steps 2 1 ∷ steps 3 0 ∷
    next_link 1 1 ∷ next_link 2 3 ∷
    held 1 (1 ∷ []) ∷ held 2 (3 ∷ []) ∷ held 3 [] ∷
    backup 1 (2 ∷ 3 ∷ []) ∷ backup 2 (5 ∷ 1 ∷ []) ∷
    trace 1 (Nothing ∷ OneLink 0 ∷ OneLink 2 ∷ OneLink 3 ∷ OneLink 4 ∷ OneLink 5 ∷ OneGroup 0 ∷ []) (1 ∷ []) 3 ∷
    trace 1 (OneLink 1 ∷ []) (2 ∷ 3 ∷ []) 4 ∷
    trace 2 (Nothing ∷ OneLink 0 ∷ OneLink 1 ∷ OneLink 2 ∷ OneLink 4 ∷ OneLink 5 ∷ OneGroup 0 ∷ []) (3 ∷ []) 4 ∷
    trace 2 (OneLink 3 ∷ []) (5 ∷ 1 ∷ []) 2 ∷
    trace 3 (Nothing ∷ OneLink 0 ∷ OneLink 1 ∷ OneLink 2 ∷ OneLink 3 ∷ OneLink 4 ∷ OneLink 5 ∷ OneGroup 0 ∷ []) [] 4294967295 ∷
    []

-- Delay, with links 1 and 3 in group 0 and link 4 withdrawn.
abbrev under_delay_shared_withdrawn : List Claim
under_delay_shared_withdrawn =
    no_recovery 0 ∷ no_recovery 1 ∷ recovery 2 3 ∷ no_recovery 3 ∷ recovery 5 4 ∷
    no_guarantee 0 ∷ no_guarantee 1 ∷ no_guarantee 2 ∷ guarantee 3 0 ∷ planned 1 ∷
    worst_value 3 [] 0 ∷
    tight_links [] ∷ steps 3 0 ∷
    held 3 [] ∷
    trace 3 (Nothing ∷ OneLink 0 ∷ OneLink 1 ∷ OneLink 2 ∷ OneLink 3 ∷ OneLink 4 ∷ OneLink 5 ∷ OneGroup 0 ∷ []) [] 0 ∷
    []

-- Width, with links 1 and 3 in group 0 and link 4 withdrawn.
abbrev under_width_shared_withdrawn : List Claim
under_width_shared_withdrawn =
    no_recovery 0 ∷ no_recovery 1 ∷ recovery 2 3 ∷ no_recovery 3 ∷ recovery 5 4 ∷
    no_guarantee 0 ∷ no_guarantee 1 ∷ no_guarantee 2 ∷ guarantee 3 4294967295 ∷ planned 1 ∷
    worst_value 3 [] 4294967295 ∷
    tight_links [] ∷ steps 3 0 ∷
    held 3 [] ∷
    trace 3 (Nothing ∷ OneLink 0 ∷ OneLink 1 ∷ OneLink 2 ∷ OneLink 3 ∷ OneLink 4 ∷ OneLink 5 ∷ OneGroup 0 ∷ []) [] 4294967295 ∷
    []

-- All cases.
abbrev pub table : List Case
table =
    record { kind = by_delay; network = example 0; claims = under_delay } ∷
    record { kind = by_width; network = example 0; claims = under_width } ∷
    record { kind = by_delay; network = example 1; claims = under_delay_shared } ∷
    record { kind = by_width; network = example 1; claims = under_width_shared } ∷
    record { kind = by_delay; network = less_4 (example 0); claims = under_delay_withdrawn } ∷
    record { kind = by_width; network = less_4 (example 0); claims = under_width_withdrawn } ∷
    record { kind = by_delay; network = less_4 (example 1); claims = under_delay_shared_withdrawn } ∷
    record { kind = by_width; network = less_4 (example 1); claims = under_width_shared_withdrawn } ∷
    []
