use Rattle.std.proofs.Common.{sym, refl, subst}
use Rattle.graphs.specs.Matrix.{Joined}
use Rattle.hu.proofs.Marking.{joined_bit, passed_bit}
use Rattle.hu.proofs.mark.Sources.join_mark.Goals as goal

pub returns-then-has : goal.returns-then-has
returns-then-has c =
    let s = c.args.self.now in
    let old = c.args.marks.now.words in
    let new = c.join.new.self.words in
    let v = c.args.v in
    let joined = subst (λ row. Joined 80 old new row v) c.row.ensures.value c.join.ensures in
    record {
      row = joined_bit s.reach.words s.stand.words old c.args.u v new joined (sym c.if-has.ensures);
      others = joined.others;
    }

pub returns-else-has : goal.returns-else-has
returns-else-has c =
    let s = c.args.self.now in
    record {
      row = λ k h. passed_bit s.reach.words s.stand.words c.args.marks.now.words c.args.u c.args.v (sym c.if-has.ensures) k;
      others = λ x k h ne. refl;
    }
