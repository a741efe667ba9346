use Rattle.std.proofs.Common.{◌≡◌, subst, arith}
use Rattle.graphs.specs.Order.{Arranged, FirstBelow}
use Rattle.graphs.proofs.Orders.{arranged_more, nodes_more}
use Rattle.graphs.proofs.reach.arrange.Goals as goal

pub loop-u-preserved : goal.loop-u-preserved
loop-u-preserved c =
    let first : FirstBelow c.args.m.now.words c.loop-u.order c.loop-u.u c.loop-u.u c.unwrap_or-p.result = rw c.unwrap_or-p.ensures c.place.ensures in
    let put = c.insert_at.ensures in (
      nodes_more _ _ _ _ first.within c.loop-u.invariant.0 put,
      λ edge closure. arranged_more edge _ closure _ _ _ _ (omega arith) (c.loop-u.invariant.1 edge closure) first put,
    )

pub returns : goal.returns
returns c edge closure =
    let all : c.loop-u.u ≡ c.args.n = omega (arith, c.loop-u-test.false) in
    subst (λ n. Arranged edge c.loop-u.order n) all (c.loop-u.invariant.1 edge closure)
