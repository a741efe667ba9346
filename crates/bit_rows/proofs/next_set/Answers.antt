use Rattle.std.proofs.Common.{◌≡◌, ◌-◌, ℕ, rules, tests, arith}
use Rattle.std.proofs.lemmas.Iterator.Search.{find_from_yields_List}
use Rattle.std.proofs.lemmas.Bool.Decides.{nat_tests}
use Rattle.std.specs.Option.{option_map}
use Rattle.bit_rows.specs.Bits.{bit_pairs}
use Rattle.bit_rows.proofs.Objects.{inclusive_yields, find_first}
use Rattle.bit_rows.proofs.next_set.Goals as goal

pub returns : goal.returns
returns c =
    let row = bit_pairs c.args.words.now c.args.v in
    let a = c.in_ok-start.start in
    let is = find_from_yields_List row _ _ c.find.result c.find.ensures.ran (inclusive_yields a 255 (256 - a) (cc) (cc) (cc) (omega arith)) (λ x b q k. search (rules, tests)) in
    let same : a ≡ c.args.start = search (rules, tests) in
    let kept : c.map.result ≡ option_map (λ (x : ℕ). x) c.find.result = search (rules, tests) in
    rw (kept, is, same) (find_first row (256 - c.args.start) c.args.start (omega arith) (λ o far. grind (arith, nat_tests)))
