use Rattle.std.proofs.Common.{◌≡◌, ◌≢◌, true, rules, tests, arith}
use Rattle.std.proofs.lemmas.Iterator.{first_from_Range}
use Rattle.std.proofs.lemmas.List.{get_or_read}
use Rattle.hvn.specs.Columns.{open_in}
use Rattle.hvn.proofs.Searching.{first_of}
use Rattle.hvn.proofs.flow.Flow.lowest_open.Goals as goal

pub returns : goal.returns
returns c =
    let s = c.args.self.now in
    let test = open_in s.flags s.reach.words c.args.v in
    first_of s.count test c.find.result
    (first_from_Range _ _ _ _ (λ u. test u ≡ true) (λ u. test u ≢ true) c.find.ensures.ran
    (λ x q k. grind (arith, tests, get_or_read))
    (λ x q k. (search rules, grind (arith, tests, get_or_read))))
