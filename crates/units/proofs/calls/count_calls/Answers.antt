use Rattle.std.proofs.Common.{List, length, sym, ap, ◌∙◌, rules}
use Rattle.std.specs.List.{flat_map}
use Rattle.std.proofs.lemmas.Iterator.Consumers.{YieldsList-at, YieldsList-from_filter, count_from_yields_List}
use Rattle.grammar.specs.Meanings.{statements_from}
use Rattle.grammar.specs.Parse.{Statement}
use Rattle.grammar.specs.Units.{statements_in}
use Rattle.grammar.proofs.Reading.{read_admitted, read_refused}
use Rattle.grammar.proofs.Items.{items_yield}
use Rattle.units.specs.Listing.{pointers_at, pointers_in}
use Rattle.units.proofs.Passes.{is_pointed, count_pointed}
use Rattle.units.proofs.calls.count_calls.Goals as goal

pub returns-then-is_err : goal.returns-then-is_err
unfolding pointers_in
returns-then-is_err c =
    sym (ap (λ (ss : List Statement). length (flat_map pointers_at ss)) (read_refused c.args.text.now _ c.check_text.ensures (sym c.is_err.ensures.value ∙ c.if-is_err.true)))

pub returns : goal.returns
unfolding pointers_in
returns c =
    let text = c.args.text.now in
    let read = read_admitted text _ c.check_text.ensures (sym c.is_err.ensures.value ∙ c.if-is_err.false) in
    let whole = ap (statements_from text) c.new.ensures.at ∙ read.whole in
    let items = items_yield text c.new.result (statements_in text) c.new.ensures.text whole in
    count_from_yields_List c.filter.result c.count.result c.count.ensures.ran
    (YieldsList-from_filter _ is_pointed (YieldsList-at c.filter.ensures.source items) c.filter.ensures.closure (λ x b q k. search (rules, k)))
    ∙ count_pointed (statements_in text)
