use Rattle.std.proofs.Common.{refl, arith}
use Rattle.difference.proofs.Queue.{pushed}
use Rattle.difference.proofs.pending.Pending.push.Goals as goal

pub returns-then-self-lt65536 : goal.returns-then-self-lt65536
returns-then-self-lt65536 c = λ room. pushed c.args.self.now _ c.args.pair (omega arith) refl refl refl
