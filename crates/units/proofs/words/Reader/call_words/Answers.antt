use Rattle.std.proofs.Common.{◌≡◌, ◌++◌, ◌∷◌, [], ℕ, List, Option, map, length, sym, ap, ◌∙◌, arith}
use Rattle.grammar.specs.declared.item.Place.{Place}
use Rattle.grammar.specs.Meanings.{place_in, callee_in, target_in, arguments_in}
use Rattle.units.specs.Words.{word}
use Rattle.units.specs.Statements.{argument_words, result_words}
use Rattle.units.proofs.Arguments.{handed_length, handed_more, handed_all, handed_result, handed_no_result}
use Rattle.units.proofs.words.Reader.call_words.Goals as goal

pub push-requires : goal.push-requires
push-requires g c =
    let text = c.args.self.now.text.now in
    let size = handed_length (word (g.N.FirstVariables.first c.args.self.now.names.now)) (callee_in text c.args.call.callee) (place_in text) c.as_slice-argument-items.result.now c.loop-j.j in
    (omega arith, omega (arith, ap length c.loop-j.invariant, size, c.as_slice-argument-items.ensures.few))

pub loop-j-preserved : goal.loop-j-preserved
loop-j-preserved g c =
    let text = c.args.self.now.text.now in
    c.push.ensures.items ∙ ap (λ (ws : List ℕ). ws ++ c.argument_word.result ∷ []) c.loop-j.invariant
    ∙ handed_more (word (g.N.FirstVariables.first c.args.self.now.names.now)) (callee_in text c.args.call.callee) (place_in text) c.as_slice-argument-items.result.now c.loop-j.j _ _ c.loop-j-test.true c.argument_word.ensures

pub push-requires-in-Some : goal.push-requires-in-Some
push-requires-in-Some g c =
    let text = c.args.self.now.text.now in
    let size = handed_length (word (g.N.FirstVariables.first c.args.self.now.names.now)) (callee_in text c.args.call.callee) (place_in text) c.as_slice-argument-items.result.now c.loop-j.j in
    (omega arith, omega (arith, ap length c.loop-j.invariant, size, c.as_slice-argument-items.ensures.few))

pub returns-in-Some : goal.returns-in-Some
returns-in-Some g c =
    let text = c.args.self.now.text.now in
    let f = word (g.N.FirstVariables.first c.args.self.now.names.now) in
    let callee = callee_in text c.args.call.callee in
    let given = argument_words callee 2 (arguments_in text c.args.call.arguments) in
    let all : c.loop-j.words.items ≡ map f given =
    c.loop-j.invariant ∙ handed_all f callee (place_in text) c.as_slice-argument-items.result.now c.loop-j.j c.loop-j-test.false
    ∙ ap (λ (ps : List Place). map f (argument_words callee 2 (map (place_in text) ps))) c.as_slice-argument-items.ensures.all in
    c.push-in-Some.ensures.items ∙ ap (λ (ws : List ℕ). ws ++ c.result_word.result ∷ []) all
    ∙ handed_result f callee given (place_in text c.in-Some.place) c.result_word.result c.result_word.ensures
    ∙ ap (λ (t : Option Place). map f (given ++ result_words (target_in text t) callee)) (sym c.in-Some.is)

pub returns-in_default : goal.returns-in_default
returns-in_default g c =
    let text = c.args.self.now.text.now in
    let f = word (g.N.FirstVariables.first c.args.self.now.names.now) in
    let callee = callee_in text c.args.call.callee in
    let given = argument_words callee 2 (arguments_in text c.args.call.arguments) in
    let all : c.loop-j.words.items ≡ map f given =
    c.loop-j.invariant ∙ handed_all f callee (place_in text) c.as_slice-argument-items.result.now c.loop-j.j c.loop-j-test.false
    ∙ ap (λ (ps : List Place). map f (argument_words callee 2 (map (place_in text) ps))) c.as_slice-argument-items.ensures.all in
    all ∙ handed_no_result f callee given ∙ ap (λ (t : Option Place). map f (given ++ result_words (target_in text t) callee)) (sym c.in_default.is)
