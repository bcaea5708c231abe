use Rattle.std.proofs.Common.{is_ok, arith, rules}
use Rattle.networks.specs.Drafts.{refusal}
use Rattle.networks.proofs.Tables.{sound_tried, sound_unless, answered_ok}
use Rattle.networks.proofs.draft.Draft.add.Goals as goal

-- The limits stand after the push, whether or not it found memory.
pub invariant_of-self : goal.invariant_of-self
invariant_of-self c =
    let old = c.args.self.now.table in
    let none = answered_ok (refusal old.nodes c.len-place.result c.args.link) _ c.in_ok-admit.ensures in
    let sound = sound_unless old.nodes c.len-place.result c.args.link none (search rules) (search rules) in
    record { few = old.few; short = omega arith; sound = sound_tried _ _ _ _ (is_ok c.push.result) c.push.ensures.items old.sound sound.1 }
