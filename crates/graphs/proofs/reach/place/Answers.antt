use Rattle.std.proofs.Common.{◌≡◌, true, ◌≢◌, get_or, rules, tests, arith}
use Rattle.std.proofs.lemmas.Iterator.{first_from_Range}
use Rattle.std.proofs.lemmas.List.{get_or_read}
use Rattle.graphs.specs.Order.{above}
use Rattle.graphs.proofs.Orders.{first_below}
use Rattle.graphs.proofs.reach.place.Goals as goal

pub returns : goal.returns
returns c =
    let m = c.args.m.now.words in
    let order = c.args.order.now in
    first_below m order c.args.u c.args.n c.find.result
    (first_from_Range _ _ _ _ (λ p. above m c.args.u (get_or order p 0) ≡ true) (λ p. above m c.args.u (get_or order p 0) ≢ true) c.find.ensures.ran
    (λ x q k. grind (arith, tests, get_or_read))
    (λ x q k. (search rules, grind (arith, tests, get_or_read))))
