use Rattle.std.proofs.Common.{◌≡◌, get_or, sym, ap, ◌∙◌, ap₂}
use Rattle.constraints.specs.Reduced.{own_position}
use Rattle.constraints.specs.Lists.{system_of}
use Rattle.engine.specs.declared.fault.EngineFault.TheVariants.{NoRoom}
use Rattle.constraints.proofs.Sound.{list_valid}
use Rattle.layers.specs.Classes.{replacing}
use Rattle.layers.specs.Layered.{rep_by, raised, handed, own_place}
use Rattle.layers.proofs.Planning.{placed_by}
use Rattle.layers.proofs.merging.raise.Goals as goal

pub returns-in-NoRoom : goal.returns-in-NoRoom
returns-in-NoRoom c same ready =
    let p = c.args.plan.now.own in
    let sys = system_of p in
    let reps = c.args.plan.now.reps.items in
    let o = c.in-NoRoom.o in
    let x = get_or c.deref.result.now c.from.result 0 in
    let word : x ≡ get_or (handed same sys).words o.position 0 =
    ap₂ (λ l i. get_or l i 0) (c.deref.ensures.0 ∙ ready.listed) c.from.ensures in
    let place : c.earliest-own.result ≡ own_place same sys o.position =
    c.earliest-own.ensures.value
    ∙ ap₂ (λ r l. own_position (replacing r) l x) c.deref-in-NoRoom.ensures.0 c.words.ensures.value
    ∙ placed_by sys (list_valid p) same reps ready.covers ready.told ready.within x
    ∙ ap (own_position (rep_by same sys) sys.words) word in
    ap₂ (λ a d. NoRoom (record { position = a; depth = d; store = o.store })) place c.saturating_add.ensures
    ∙ ap (raised same sys) (sym c.in-NoRoom.is)
