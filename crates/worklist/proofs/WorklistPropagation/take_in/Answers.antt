use Rattle.std.proofs.Common.{arith}
use Rattle.constraints.specs.Lists.{system_of}
use Rattle.constraints.proofs.Sound.{list_valid}
use Rattle.solvers.proofs.Rests.{took}
use Rattle.worklist.proofs.Runs.{ready_next}
use Rattle.worklist.proofs.WorklistPropagation.take_in.Goals as goal

pub overflow_add-self : goal.overflow_add-self
overflow_add-self g c = omega (arith, c.requires.place, (list_valid c.args.list.now).few_words)

pub insert-requires : goal.insert-requires
insert-requires g c = omega (arith, c.requires.place, (list_valid c.args.list.now).few_words)

pub run-requires : goal.run-requires
run-requires g c =
    record { ready = ready_next (system_of c.args.list.now) c.args.i _ _ _ c.requires.place c.requires.so_far c.requires.rests c.insert.ensures }

pub returns : goal.returns
returns g c =
    let store = g.S.RowStore in
    record {
      takes = took (λ w. store.pairs w.store) (λ w. store.room w.store) (system_of c.args.list.now) c.args.i _ _ c.requires.so_far c.requires.fits _ _ c.run.ensures;
      fixed = c.run.ensures.grows.same_limit;
    }
