use Rattle.std.proofs.Common.{◌≡◌, ℕ, List, ◌++◌, length, take}
use Rattle.routes.specs.Records.{Leads, next_of}
use Rattle.routes.proofs.walk.Walk.write_places.Given as goal

-- the places so far, and those that are left
abbrev pub invariant-loop-slot : goal.invariant-loop-slot
invariant-loop-slot g l =
    (e : ℕ) (ks : List ℕ) → Leads (g.N.Network.meaning l.self.network) (next_of l.self.records.now) e l.initial.at ks → length ks ≡ length l.initial.places →
    (js : List ℕ) × Leads (g.N.Network.meaning l.self.network) (next_of l.self.records.now) e l.at js × (take l.slot-index l.places ++ js ≡ ks)
