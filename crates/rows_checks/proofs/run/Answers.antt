use Rattle.std.proofs.Common.{Ok, ap}
use Rattle.std.proofs.lemmas.Bool.{lt-ltb}
use Rattle.rows_checks.specs.declared.Answer.TheVariants as Says
use Rattle.rows.proofs.Replies.{found_is}
use Rattle.rows_checks.proofs.run.Goals as goal

pub returns-in_ok-next-in-Next-clause-reply : goal.returns-in_ok-next-in-Next-clause-reply
returns-in_ok-next-in-Next-clause-reply g c =
    let P = g.S.RowStore.pairs c.args.store.now in
    let v = c.in-Next.v in
    let told = c.in_ok-next-in-Next.ensures in
    let row = lt-ltb v 256 told.1 in
    rw (c.in-Next.is, row) (ap (λ r. Ok (Says.Next r)) (found_is (P v) c.in-Next.start c.in_ok-next-in-Next.field-0 told.0))
