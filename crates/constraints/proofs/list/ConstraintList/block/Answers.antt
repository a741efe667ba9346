use Rattle.std.proofs.Common.{◌<◌, ◌≤◌, get_or, arith}
use Rattle.constraints.proofs.Formed.{variables_push, word_push}
use Rattle.constraints.proofs.Pushed.{each_push, told_push}
use Rattle.constraints.proofs.list.ConstraintList.block.Goals as goal

pub invariant_of-self : goal.invariant_of-self
invariant_of-self c =
    let s = c.args.self.now in
    let n = c.args.n in
    let bs = s.lengths.items in
    let pushed = c.push.ensures.items in
    record {
      narrow = omega arith;
      few = omega arith;
      within = s.within;
      counted = rw (pushed, variables_push) (omega (arith, s.counted));
      told = rw pushed (told_push bs n s.width s.starting (omega arith) s.counted s.sized s.told);
      sized = rw pushed (each_push (λ b. (0 < b) × (b ≤ 8)) bs n s.sized (omega arith, omega arith));
      formed = rw pushed (λ i h. word_push bs n (get_or s.words.items i 0) (s.formed i h));
    }
