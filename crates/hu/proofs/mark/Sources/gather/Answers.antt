use Rattle.std.proofs.Common.{◌≡◌, ◌||◌, refl, ap, ◌∙◌, arith}
use Rattle.graphs.specs.Matrix.{bit_at}
use Rattle.hu.specs.Marks.{gathered}
use Rattle.hu.proofs.Marking.{gathered_none, gathered_more}
use Rattle.hu.proofs.mark.Sources.gather.Goals as goal

pub loop-u-init : goal.loop-u-init
loop-u-init c =
    ((λ k h. gathered_none c.args.self.now.reach.words c.args.self.now.stand.words c.args.v k (bit_at 80 c.args.marks.now.words c.args.v k)), λ x k h ne. refl)

pub loop-u-preserved : goal.loop-u-preserved
loop-u-preserved c = (
  (λ k h. gathered_more c.args.self.now.reach.words c.args.self.now.stand.words c.args.v k c.loop-u.u
      (bit_at 80 c.args.marks.now.words c.args.v k) (bit_at 80 c.loop-u.marks.words c.args.v k) (bit_at 80 c.join_mark.new.marks.words c.args.v k)
      (c.loop-u.invariant.0 k h) (c.join_mark.ensures.row k h)),
  λ x k h ne. c.join_mark.ensures.others x k h ne ∙ c.loop-u.invariant.1 x k h ne,
)

pub returns : goal.returns
returns c =
    let all : c.loop-u.u ≡ c.args.self.now.count = omega (arith, c.loop-u-test.false) in
    record {
      row = λ k h. c.loop-u.invariant.0 k h
          ∙ ap (λ n. bit_at 80 c.args.marks.now.words c.args.v k || gathered c.args.self.now.reach.words c.args.self.now.stand.words c.args.v k n) all;
      others = c.loop-u.invariant.1;
    }
