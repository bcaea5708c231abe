-- Each line of the table is true.
use Rattle.std.proofs.Common.{◌≡◌, refl, List, [], ◌∷◌, ◌++◌, map, true, false, inl, inr, arith}
use Rattle.std.proofs.lemmas.Bool.{both_ways}
use Rattle.definitions.specs.declared.Link.{Link}
use Rattle.definitions.specs.Example.{by_delay, scale, Case, AllCases, example, table}
use Rattle.definitions.proofs.Tables.{table_right}
use Rattle.histories.specs.declared.call.Call.{Call}
use Rattle.histories.specs.Questions.{WithdrawCall}
use Rattle.histories.specs.Histories.{Latest, newest, before, Withdrawn, Ran}
use Rattle.example_table.specs.Table.{Line, claimed, withdraw_refused, refused, LineHolds, AllLines, withdrawn_and_planned, lines}

-- Of no calls none is the latest.
nothing : {P : Call → Type 0} {c : Call} → Latest P c [] → ⊥
nothing l = elim l [ ]

abbrev link_4 : Link
link_4 = record { tail = 0; head = 2; figure = 5; groups = 0 }

out : Withdrawn withdrawn_and_planned 4
out = before _ (λ p e. p) (newest _ refl refl refl)

ran : Ran (scale by_delay) (example 0) (refused 4 ∷ withdrawn_and_planned)
ran = (
  (λ w m. ((λ e. absurd (both_ways false refl e)), again)),
  (
    (λ w m. (λ e. inl (omega arith, tt), λ a. refl)),
    (
      (λ w m. (λ e. inl (link_4, refl, inl (nothing, tt)), λ a. refl)),
      tt,
    ),
  ),
)
  where
    again : WithdrawCall (example 0) (Withdrawn withdrawn_and_planned 4) 4 (λ f. ⊥) (Unit {0}) → false ≡ true
    again (inl (l, h, inl (free, a))) = absurd (free out)
    again (inl (l, h, inr (taken, a))) = absurd a
    again (inr (none, a)) = absurd a

last_line : LineHolds (withdraw_refused by_delay (example 0) withdrawn_and_planned 4 9 3)
last_line = (
  ran,
  inl (link_4, refl, inr ((λ free. free out), refl)),
  before _ (λ p e. absurd (both_ways false refl e)) (newest _ refl refl tt),
)

claims_first : (cs : List Case) (ls : List Line) → AllCases 3 cs → AllLines ls → AllLines (map claimed cs ++ ls)
claims_first [] ls c r = r
claims_first (x ∷ xs) ls (c, cs) r = (c, claims_first xs ls cs r)

pub all_lines : AllLines lines
all_lines =
    claims_first table (withdraw_refused by_delay (example 0) withdrawn_and_planned 4 9 3 ∷ []) table_right (last_line, tt)
