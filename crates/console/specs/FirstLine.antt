-- The first line, which names the measure.
use Rattle.std.specs.Prelude.{ℕ, cond, List, [], ◌∷◌, ◌++◌, Ok, Err, codes, Result, ◌==◌}
use Rattle.console.specs.declared.command.LineFault.{LineFault}
use Rattle.console.specs.declared.command.LineFault.TheVariants.{BadWord}
use Rattle.console.specs.declared.measure.MeasureName.{MeasureName}
use Rattle.console.specs.declared.measure.MeasureName.TheVariants.{Delay, Width}
use Rattle.console.specs.Commands.{field}

-- Just D or just C.
abbrev pub measure_named : List ℕ → Result MeasureName LineFault
measure_named [] = Err (BadWord 0)
measure_named (b ∷ []) = cond (b == 68) (Ok Delay) (cond (b == 67) (Ok Width) (Err (BadWord 0)))
measure_named (b ∷ c ∷ bs) = Err (BadWord 0)

abbrev pub measure_letter : MeasureName → List ℕ
measure_letter Delay = codes "D"
measure_letter Width = codes "C"

-- Its answer: the letter, the node count and the place count.
abbrev pub opening_line : MeasureName → ℕ → ℕ → List ℕ
opening_line name nodes places = measure_letter name ++ (field nodes ++ (field places ++ (10 ∷ [])))
