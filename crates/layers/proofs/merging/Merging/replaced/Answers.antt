use Rattle.std.proofs.Common.{not, eqb, length, get_or, sym, ap, ◌∙◌}
use Rattle.std.proofs.lemmas.Bool.{cond-true}
use Rattle.constraints.specs.Finite.{count}
use Rattle.constraints.specs.Lists.{system_of}
use Rattle.constraints.specs.Reduced.{replaced}
use Rattle.layers.specs.Layered.{rep_by}
use Rattle.layers.proofs.Counting.{replaced_by}
use Rattle.layers.proofs.merging.Merging.replaced.Goals as goal

pub returns-then-self : goal.returns-then-self
returns-then-self g c =
    let s = c.args.self.now in
    let sys = system_of s.plan.own in
    let same = g.M.Merge.same in
    let ready = (s.handed c.if-self.true).ready in
    c.count_replaced.ensures ∙ ap (λ r. count (length r) (λ v. not (eqb (get_or r v 0) v))) c.deref.ensures.0
    ∙ replaced_by sys same s.plan.reps.items ready.covers ready.told
    ∙ sym (cond-true s.settled (replaced (rep_by same sys) sys) 0 c.if-self.true)
