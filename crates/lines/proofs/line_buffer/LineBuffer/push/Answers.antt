use Rattle.std.proofs.Common.{◌≡◌, ◌≤◌, [], ◌∷◌, ◌++◌, length, sym, ◌∙◌, arith, length-append, rules}
use Rattle.std.proofs.lemmas.List.{take_all, take-append-le}
use Rattle.lines.proofs.line_buffer.LineBuffer.push.Goals as goal

pub returns-then-not-is_full : goal.returns-then-not-is_full
returns-then-not-is_full c =
    let room : length c.args.self.now ≤ 64 = search rules in
    let whole = take_all 65 (c.args.self.now ++ (c.args.byte ∷ [])) (simp length-append (omega arith)) in
    rw whole (search rules)

pub returns-else-not-is_full : goal.returns-else-not-is_full
returns-else-not-is_full c =
    let line = c.args.self.now in
    let full : length line ≡ 65 = search rules in
    sym (take-append-le 65 line (c.args.byte ∷ []) (omega arith) ∙ take_all 65 line (omega arith))
