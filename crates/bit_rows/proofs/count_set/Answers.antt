use Rattle.std.proofs.Common.{◌∙◌, rules, tests, arith}
use Rattle.std.proofs.lemmas.Iterator.Consumers.{count_from_yields_List, YieldsList-from_filter}
use Rattle.bit_rows.specs.Bits.{bit_pairs}
use Rattle.bit_rows.proofs.Objects.{inclusive_yields, row_count}
use Rattle.bit_rows.proofs.count_set.Goals as goal

pub returns : goal.returns
returns c =
    let row = bit_pairs c.args.words.now c.args.v in
    count_from_yields_List c.filter.result c.count.result c.count.ensures.ran (YieldsList-from_filter _ row (inclusive_yields 0 255 256 (cc) (cc) (cc) (omega arith)) c.filter.ensures.closure (λ x b q k. search (rules, tests))) ∙ row_count row
