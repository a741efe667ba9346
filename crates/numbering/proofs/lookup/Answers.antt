use Rattle.std.proofs.Common.{None, get_or, true, ◌≢◌, sym, subst}
use Rattle.numbering.proofs.Chains.{Walk, walk_step}
use Rattle.numbering.proofs.lookup.Goals as goal

pub loop-cursor-preserved : goal.loop-cursor-preserved
loop-cursor-preserved g c =
    let same = g.B.KeyBank.same c.args.bank.now in
    let hash = g.B.KeyBank.hashed c.args.bank.now in
    let i = c.args.i in
    let links = c.args.links.now in
    let other : same c.in-Some.at i ≢ true = λ e. cc in
    subst (λ p. Walk same hash i (get_or links p None)) (sym c.from-in-Some.ensures)
    (walk_step same hash links i c.in-Some.at c.requires.linked
    (subst (Walk same hash i) c.in-Some.is c.loop-cursor.invariant) other)
