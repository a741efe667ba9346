use Rattle.std.proofs.Common.{◌≡◌, subst, arith}
use Rattle.graphs.specs.Paths.{drawn}
use Rattle.graphs.proofs.Closing.{Closing, closing_none, closing_more, closing_all}
use Rattle.graphs.proofs.reach.close.Goals as goal

pub loop-k-init : goal.loop-k-init
loop-k-init c = closing_none c.args.m.now.words

pub loop-k-preserved : goal.loop-k-preserved
loop-k-preserved c = closing_more _ _ _ _ (omega arith) c.loop-k.invariant c.through.ensures

pub returns : goal.returns
returns c =
    let all : c.loop-k.k ≡ 256 = omega arith in
    closing_all _ _ _ (subst (λ k. Closing (drawn c.args.m.now.words) k c.loop-k.m.words) all c.loop-k.invariant) c.reflect.ensures
