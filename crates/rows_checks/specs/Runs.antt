-- The reply to an operation and the pairs after it, by the room and the pairs before it.
use Rattle.std.specs.Prelude.{ℕ, cond, Ok, Err, Result, nat_lt}
use Rattle.constraints.specs.Finite.{count}
use Rattle.constraints.specs.Rows.{Rows, empty, with_pair, total}
use Rattle.rows.specs.Stores.{in_range, next_of}
use Rattle.rows.specs.declared.Added.TheVariants.{New, Old}
use Rattle.rows.specs.declared.StoreFault.{StoreFault}
use Rattle.rows.specs.declared.StoreFault.TheVariants.{Outside, Full}
use Rattle.rows_checks.specs.declared.Operation.{Operation}
use Rattle.rows_checks.specs.declared.Operation.TheVariants.{Wipe, Room, Put, Has, Next, Size}
use Rattle.rows_checks.specs.declared.Answer.{Answer}
use Rattle.rows_checks.specs.declared.Answer.TheVariants as Says

abbrev pub reply_of : Operation → ℕ → Rows → Result Answer StoreFault
reply_of Wipe n P = Ok Says.Wiped
reply_of Room n P = Ok (Says.Room n)
reply_of (Put v o) n P =
    cond (in_range v o)
    (cond (P v o) (Ok (Says.Put Old)) (cond (nat_lt (total P) n) (Ok (Says.Put New)) (Err (Full v o))))
    (Err Outside)
reply_of (Has v o) n P = cond (in_range v o) (Ok (Says.Has (P v o))) (Err Outside)
reply_of (Next v i) n P = cond (nat_lt v 256) (Ok (Says.Next (next_of (P v) i))) (Err Outside)
reply_of (Size v) n P = cond (nat_lt v 256) (Ok (Says.Size (count 256 (P v)))) (Err Outside)

abbrev pub pairs_after : Operation → ℕ → Rows → Rows
pairs_after Wipe n P = empty
pairs_after Room n P = P
pairs_after (Put v o) n P = cond (in_range v o) (cond (P v o) P (cond (nat_lt (total P) n) (with_pair P v o) P)) P
pairs_after (Has v o) n P = P
pairs_after (Next v i) n P = P
pairs_after (Size v) n P = P
