use Rattle.std.proofs.Common.{◌≡◌, length, sym, ap, ◌∙◌, arith}
use Rattle.chains.specs.Cells.{cell_at, object_of, head_of, reach}
use Rattle.chains.proofs.Chained.{is_sound, place_reach, next_none, next_some}
use Rattle.chains.proofs.Chains.first_from.Goals as goal

pub returns-in_err-after : goal.returns-in_err-after
returns-in_err-after c =
    let s = c.args.self.now in
    let place = c.place_of.result in
    let at = place_reach s.cells.items (head_of s.heads c.args.v) c.args.start place.before place.after c.place_of.ensures in
    rw c.from_residual.ensures (next_none s.cells.items s.heads c.args.v (omega arith) c.args.start (at ∙ c.in_err-after.was))

pub object_at-requires : goal.object_at-requires
object_at-requires c =
    let s = c.args.self.now in
    let sound = is_sound s.sound in
    let place = c.place_of.result in
    let at = place_reach s.cells.items (head_of s.heads c.args.v) c.args.start place.before place.after c.place_of.ensures in
    let inside = (sound.rising c.args.v (omega arith) c.args.start (omega arith)).1 c.in_ok-after.after (at ∙ c.in_ok-after.was) in
    omega (arith, inside.0, sound.few, ap length c.deref.ensures.value)

pub returns : goal.returns
returns c =
    let s = c.args.self.now in
    let cs = s.cells.items in
    let sound = is_sound s.sound in
    let start = c.args.start in
    let after = c.in_ok-after.after in
    let place = c.place_of.result in
    let at = place_reach cs (head_of s.heads c.args.v) start place.before place.after c.place_of.ensures ∙ c.in_ok-after.was in
    let passed = sound.rising c.args.v (omega arith) start (omega arith) in
    let inside = passed.1 after at in
    let read : c.object_at.result ≡ (cell_at cs after).object = c.object_at.ensures ∙ ap (λ l. (cell_at l after).object) c.deref.ensures.value in
    let object : object_of cs (reach cs (head_of s.heads c.args.v) start) ≡ c.object_at.result = ap (object_of cs) at ∙ sym read in
    next_some cs s.heads c.args.v (omega arith) start c.object_at.result object (omega (arith, passed.0)) (omega (arith, inside.1))
