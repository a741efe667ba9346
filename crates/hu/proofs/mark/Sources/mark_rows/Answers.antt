use Rattle.std.proofs.Common.{◌≡◌, ◌||◌, ap, ◌∙◌, arith, below_more}
use Rattle.graphs.specs.Matrix.{bit_at}
use Rattle.graphs.proofs.Words.{blank_bit}
use Rattle.hu.specs.Marks.{gathered}
use Rattle.hu.proofs.mark.Sources.mark_rows.Goals as goal

pub loop-v-init : goal.loop-v-init
loop-v-init c = (
  (λ x k lt h. absurd (omega arith)),
  λ x k ge lt h. blank_bit 20480 80 c.clear.new.self.words x k c.clear.ensures (omega arith) h,
)

pub loop-v-preserved : goal.loop-v-preserved
loop-v-preserved c =
    let v = c.loop-v.v in
    let new = c.gather.new.marks.words in
    let others = c.gather.ensures.others in (
      (λ x k lt h. below_more (λ y. bit_at 80 new y k ≡ gathered c.args.self.now.reach.words c.args.self.now.stand.words y k c.args.self.now.count) v
          (λ y hy. others y k h (λ e. omega arith) ∙ c.loop-v.invariant.0 y k hy h)
          (c.gather.ensures.row k h ∙ ap (λ b. b || gathered c.args.self.now.reach.words c.args.self.now.stand.words v k c.args.self.now.count) (c.loop-v.invariant.1 v k (omega arith) (omega arith) h)) x lt),
      λ x k ge lt h. others x k h (λ e. omega arith) ∙ c.loop-v.invariant.1 x k (omega arith) lt h,
    )

pub returns : goal.returns
returns c x k lt h = c.loop-v.invariant.0 x k (omega (arith, c.loop-v-test.false)) h
