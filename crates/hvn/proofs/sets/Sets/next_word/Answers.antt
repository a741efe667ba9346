use Rattle.std.proofs.Common.{◌≡◌, ◌≢◌, ◌-◌, ◌*◌, ◌/◌, ◌^◌, get_or, rules, tests, arith}
use Rattle.std.proofs.lemmas.Iterator.{first_from_Range}
use Rattle.hvn.proofs.Searching.{word_from}
use Rattle.hvn.proofs.sets.Sets.next_word.Goals as goal

pub returns : goal.returns
returns c =
    let row = c.row-row.result.now in
    let low = c.args.low in
    word_from c.args.self.now.rows.words c.args.k low row c.row-row.ensures.value c.find.result
    (first_from_Range _ _ _ _ (λ x. get_or row x 0 / 2 ^ (low - 32 * x) ≢ 0) (λ x. get_or row x 0 / 2 ^ (low - 32 * x) ≡ 0) c.find.ensures.ran
    (λ x q e. grind (arith, tests))
    (λ x q e. (search rules, grind (arith, tests))))
