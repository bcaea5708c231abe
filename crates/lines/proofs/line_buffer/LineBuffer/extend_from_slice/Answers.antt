use Rattle.std.proofs.Common.{◌≡◌, ℕ, ◌+◌, min, List, ◌++◌, length, take, sym, ap, ◌∙◌, arith, rules}
use Rattle.std.proofs.Math.Seq.{take-append-add}
use Rattle.std.proofs.lemmas.List.{take_min}
use Rattle.lines.proofs.line_buffer.LineBuffer.extend_from_slice.Goals as goal

-- With the bytes that fit, the kept ones are the first 65.
fill : (kept bytes : List ℕ) (room : ℕ) → room + length kept ≡ 65 → kept ++ take (min room (length bytes)) bytes ≡ take 65 (kept ++ bytes)
fill kept bytes room all =
    let full : length kept + room ≡ 65 = omega arith in
    ap (λ x. kept ++ x) (take_min room bytes) ∙ sym (take-append-add kept bytes room) ∙ ap (λ n. take n (kept ++ bytes)) full

pub returns : goal.returns
returns c =
    let room = c.remaining_capacity.result in
    let all : room + length c.args.self.now ≡ 65 = search rules in
    let put : c.try_extend_from_slice.new.self.items ≡ c.args.self.now ++ take (min room (length c.args.bytes.now)) c.args.bytes.now = search rules in
    put ∙ fill c.args.self.now c.args.bytes.now room all
