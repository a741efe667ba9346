use Rattle.std.proofs.Common.{◌≡◌, List, Option, None, sym, ap, ◌∙◌, rules}
use Rattle.std.specs.List.{flat_map, slice_get}
use Rattle.std.specs.Option.{option_map}
use Rattle.std.proofs.lemmas.Iterator.Consumers.{YieldsList-at, YieldsList-from_filter, nth_from_yields_List}
use Rattle.grammar.specs.declared.state.Found.{Found}
use Rattle.grammar.specs.Meanings.{statements_from, statement_in, target_in}
use Rattle.grammar.specs.Parse.{Statement}
use Rattle.grammar.specs.Units.{statements_in}
use Rattle.grammar.proofs.Reading.{read_admitted, read_refused}
use Rattle.grammar.proofs.Items.{items_yield}
use Rattle.units.specs.Listing.{pointers_at, pointers_in}
use Rattle.units.proofs.Passes.{is_pointed, first_of, pointer_found, first_pointer}
use Rattle.units.proofs.calls.call_pointer.Goals as goal

pub returns-then-is_err : goal.returns-then-is_err
unfolding pointers_in
returns-then-is_err c =
    sym (ap (λ (ss : List Statement). slice_get (flat_map pointers_at ss) c.args.i) (read_refused c.args.text.now _ c.check_text.ensures (sym c.is_err.ensures.value ∙ c.if-is_err.true)))

pub returns-in_err-found : goal.returns-in_err-found
unfolding pointers_in
returns-in_err-found c =
    let text = c.args.text.now in
    let read = read_admitted text _ c.check_text.ensures (sym c.is_err.ensures.value ∙ c.if-is_err.false) in
    let whole = ap (statements_from text) c.new.ensures.at ∙ read.whole in
    let items = items_yield text c.new.result (statements_in text) c.new.ensures.text whole in
    pointer_found (option_map (statement_in text) c.nth.result) (target_in text c.from_residual.result) (statements_in text) c.args.i
    (nth_from_yields_List c.nth.result c.nth.new.self c.args.i c.nth.ensures.ran
    (YieldsList-from_filter _ is_pointed (YieldsList-at c.filter.ensures.source items) c.filter.ensures.closure (λ x b q k. search (rules, k))))
    ((let none : c.from_residual.result ≡ None = search rules in ap (target_in text) none) ∙ sym (ap (λ (o : Option Found). first_of (option_map (statement_in text) o)) c.in_err-found.was))

pub returns : goal.returns
unfolding pointers_in
returns c =
    let text = c.args.text.now in
    let read = read_admitted text _ c.check_text.ensures (sym c.is_err.ensures.value ∙ c.if-is_err.false) in
    let whole = ap (statements_from text) c.new.ensures.at ∙ read.whole in
    let items = items_yield text c.new.result (statements_in text) c.new.ensures.text whole in
    pointer_found (option_map (statement_in text) c.nth.result) (target_in text c.pointer_of.result) (statements_in text) c.args.i
    (nth_from_yields_List c.nth.result c.nth.new.self c.args.i c.nth.ensures.ran
    (YieldsList-from_filter _ is_pointed (YieldsList-at c.filter.ensures.source items) c.filter.ensures.closure (λ x b q k. search (rules, k))))
    (first_pointer _ _ (c.pointer_of.ensures text) ∙ sym (ap (λ (o : Option Found). first_of (option_map (statement_in text) o)) c.in_ok-found.was))
