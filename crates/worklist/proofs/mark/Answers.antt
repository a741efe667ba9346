use Rattle.std.proofs.Common.{rules, ◌≡◌, get_or, ap, ◌∙◌, arith}
use Rattle.std.proofs.lemmas.List.{get_or-take, length-take}
use Rattle.constraints.specs.Constraint.{constraint, decode}
use Rattle.constraints.specs.Lists.{system_of}
use Rattle.worklist.proofs.mark.Goals as goal

pub loop-j-preserved : goal.loop-j-preserved
loop-j-preserved c =
    let j = c.loop-j.j in
    let words = c.words-words.result.now in
    let is : c.decode.result ≡ constraint (system_of c.args.list.now) j =
    c.decode.ensures.value ∙ ap decode (get_or-take c.min.result words j 0 (omega (arith, length-take c.min.result words)))
    ∙ ap (λ ws. decode (get_or ws j 0)) c.words-words.ensures.value in
    search rules
