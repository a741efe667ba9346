use Rattle.std.proofs.Common.{length, arith}
use Rattle.graphs.proofs.Words.{row_within}
use Rattle.graphs.proofs.bank.Rows.row.Goals as goal

pub overflow_mul-at : goal.overflow_mul-at
overflow_mul-at c = omega (arith, row_within c.args.self.now.width (length c.args.self.now.words.now) c.args.i c.requires)

pub overflow_add-result : goal.overflow_add-result
overflow_add-result c = omega (arith, row_within c.args.self.now.width (length c.args.self.now.words.now) c.args.i c.requires)

pub offset_bounds-self-at : goal.offset_bounds-self-at
offset_bounds-self-at c = omega (arith, row_within c.args.self.now.width (length c.args.self.now.words.now) c.args.i c.requires)

pub slice_bounds-result-end : goal.slice_bounds-result-end
slice_bounds-result-end c = omega (arith, row_within c.args.self.now.width (length c.args.self.now.words.now) c.args.i c.requires)
