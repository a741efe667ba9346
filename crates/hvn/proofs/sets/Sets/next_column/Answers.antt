use Rattle.std.proofs.Common.{◌/◌, ◌^◌, ◌≢◌, MatchOption, get_or, sym, subst}
use Rattle.hvn.specs.Columns.{NoneFrom, NextColumn, LowestBit}
use Rattle.hvn.proofs.Searching.{none_before, word_some, column_in_word}
use Rattle.hvn.proofs.sets.Sets.next_column.Goals as goal

pub returns-in_err-at : goal.returns-in_err-at
returns-in_err-at c =
    let rows = c.args.self.now.rows.words in
    subst (λ r. MatchOption r (NoneFrom rows c.args.k c.args.low 2816) (NextColumn rows c.args.k c.args.low)) (sym c.from_residual.ensures)
    (none_before rows c.args.k c.args.low 88 c.in_err-at.ensures)

pub lowest_bit-requires-clause-some : goal.lowest_bit-requires-clause-some
lowest_bit-requires-clause-some c =
    subst (λ s. get_or c.row.result.now c.in_ok-at.at 0 / 2 ^ s ≢ 0) (sym c.saturating_sub.ensures)
    (word_some c.args.self.now.rows.words c.args.k c.args.low c.row.result.now c.row.ensures.value c.in_ok-at.at c.in_ok-at.ensures)

pub returns : goal.returns
returns c =
    column_in_word c.args.self.now.rows.words c.args.k c.args.low c.row.result.now c.row.ensures.value c.in_ok-at.at c.in_ok-at.ensures
    c.lowest_bit.result
    (subst (λ s. LowestBit (get_or c.row.result.now c.in_ok-at.at 0) s c.lowest_bit.result) c.saturating_sub.ensures c.lowest_bit.ensures)
