use Rattle.std.proofs.Common.{Ok, sym, ap, ◌∙◌}
use Rattle.std.proofs.lemmas.Result.{err_from_is_err_and}
use Rattle.grammar.specs.Meanings.{ending}
use Rattle.grammar.proofs.Units.{walk_none, walk_more, walk_all, walk_fault}
use Rattle.grammar.proofs.reader.read_all.Goals as goal

pub loop-found-init : goal.loop-found-init
loop-found-init c = walk_none _ (λ ss. Unit {0}) tt

pub loop-found-preserved : goal.loop-found-preserved
loop-found-preserved c =
    let is = c.in_ok-found.was ∙ ap Ok c.in-Some.is in
    walk_more c.loop-found.invariant (λ ss. Unit {0}) _ _ c.next_item.ensures.read is (λ ss _. tt)

pub returns-in_err-found : goal.returns-in_err-found
returns-in_err-found c =
    let p = err_from_is_err_and c.from_residual.result c.from_residual.ensures.1 in
    rw (p.1, p.2) (sym (ap ending (walk_fault c.loop-found.invariant _ c.in_err-found.ensures.read)))

pub returns : goal.returns
returns c =
    let is = c.in_ok-found.was ∙ ap Ok c.in_default.is in
    sym (ap ending (walk_all c.loop-found.invariant _ c.next_item.ensures.read is))
