use Rattle.std.proofs.Common.{◌++◌, ◌-◌, List, Option, Some, map, length, sym, ap, ◌∙◌, arith}
use Rattle.std.specs.List.{slice_get}
use Rattle.grammar.specs.Meanings.{place_in, callee_in, target_in}
use Rattle.grammar.specs.declared.item.Place.{Place}
use Rattle.units.specs.Words.{word}
use Rattle.units.specs.Statements.{argument_words, result_words}
use Rattle.units.proofs.Arguments.{read_argument, read_result, one_result}
use Rattle.units.proofs.words.Reader.call_word.Goals as goal

pub returns-then-i-count : goal.returns-then-i-count
returns-then-i-count g c =
    let text = c.args.self.now.text.now in
    let f = word (g.N.FirstVariables.first c.args.self.now.names.now) in
    let callee = callee_in text c.args.call.callee in
    let target = target_in text c.args.target in
    read_argument f callee target (place_in text) c.as_slice-arguments.result.now c.args.i _ _ c.if-i-count.true c.argument_word.ensures
    ∙ ap (λ (ps : List Place). slice_get (map f (argument_words callee 2 (map (place_in text) ps) ++ result_words target callee)) c.args.i) c.as_slice-arguments.ensures.all

pub returns-then-i-count-2 : goal.returns-then-i-count-2
returns-then-i-count-2 g c =
    let text = c.args.self.now.text.now in
    let f = word (g.N.FirstVariables.first c.args.self.now.names.now) in
    let callee = callee_in text c.args.call.callee in
    let target = target_in text c.args.target in
    let past = c.args.i - length c.as_slice-arguments.result.now in
    sym (one_result f callee target past (omega (arith, c.if-i-count-2.true)))
    ∙ read_result f callee target (place_in text) c.as_slice-arguments.result.now c.args.i past (omega (arith, c.if-i-count-2.true))
    ∙ ap (λ (ps : List Place). slice_get (map f (argument_words callee 2 (map (place_in text) ps) ++ result_words target callee)) c.args.i) c.as_slice-arguments.ensures.all

pub returns-in-Some : goal.returns-in-Some
returns-in-Some g c =
    let text = c.args.self.now.text.now in
    let f = word (g.N.FirstVariables.first c.args.self.now.names.now) in
    let callee = callee_in text c.args.call.callee in
    let target = target_in text c.args.target in
    ap Some c.result_word.ensures
    ∙ sym (ap (λ (t : Option Place). slice_get (map f (result_words (target_in text t) callee)) 0) c.in-Some.is)
    ∙ read_result f callee target (place_in text) c.as_slice-arguments.result.now c.args.i 0 (omega (arith, c.if-i-count.false, c.if-i-count-2.false))
    ∙ ap (λ (ps : List Place). slice_get (map f (argument_words callee 2 (map (place_in text) ps) ++ result_words target callee)) c.args.i) c.as_slice-arguments.ensures.all

pub returns-in-None : goal.returns-in-None
returns-in-None g c =
    let text = c.args.self.now.text.now in
    let f = word (g.N.FirstVariables.first c.args.self.now.names.now) in
    let callee = callee_in text c.args.call.callee in
    let target = target_in text c.args.target in
    sym (ap (λ (t : Option Place). slice_get (map f (result_words (target_in text t) callee)) 0) c.in-None.is)
    ∙ read_result f callee target (place_in text) c.as_slice-arguments.result.now c.args.i 0 (omega (arith, c.if-i-count.false, c.if-i-count-2.false))
    ∙ ap (λ (ps : List Place). slice_get (map f (argument_words callee 2 (map (place_in text) ps) ++ result_words target callee)) c.args.i) c.as_slice-arguments.ensures.all
