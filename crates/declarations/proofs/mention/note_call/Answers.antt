use Rattle.std.proofs.Common.{◌≡◌, [], ◌∷◌, ◌++◌, List, map, length, sym, ap, ◌∙◌, append-nil, arith}
use Rattle.std.proofs.lemmas.List.{length-map, take_all}
use Rattle.grammar.specs.declared.item.Place.{Place as PlaceIn}
use Rattle.grammar.specs.Grammar.{Place}
use Rattle.grammar.specs.Meanings.{place_in}
use Rattle.declarations.specs.Declarations.{Mention, uses}
use Rattle.declarations.specs.Meanings.{noted}
use Rattle.declarations.specs.Listed.{listed}
use Rattle.declarations.proofs.Noting.{noted_push, place_more, mentions_after}
use Rattle.declarations.proofs.mention.note_call.Goals as goal

pub loop-argument-init : goal.loop-argument-init
loop-argument-init c = record { long = omega arith; all = λ text. sym (append-nil _) }

pub loop-argument-preserved : goal.loop-argument-preserved
loop-argument-preserved c =
    let places = c.as_slice-argument-items.result.now in
    let i = c.loop-argument.argument-index in
    record {
      long = omega (arith, c.push-in-loop-argument.ensures.len, c.loop-argument.invariant.long);
      all = λ text.
          place_more text (noted text (listed c.push.new.self)) (noted text (listed c.loop-argument.mentions)) (noted text (listed c.push-in-loop-argument.new.self)) places i _ c.loop-argument-test.true
          (c.loop-argument.invariant.all text) (ap (noted text) c.push-in-loop-argument.ensures.items ∙ noted_push text _ _);
    }

pub returns : goal.returns
returns c =
    let places = c.as_slice-argument-items.result.now in
    let i = c.loop-argument.argument-index in
    record {
      few = omega (arith, c.loop-argument.invariant.long, c.push.ensures.len, c.loop-argument.auto.argument-index-end, c.as_slice-argument-items.ensures.few);
      all = λ text.
          mentions_after (noted text (listed c.args.mentions.now)) (noted text (listed c.push.new.self)) (noted text (listed c.loop-argument.mentions)) _ _
          (ap (noted text) c.push.ensures.items ∙ noted_push text _ _ ∙ ap (λ (m : Mention). noted text (listed c.args.mentions.now) ++ m ∷ []) (c.callee_mention.ensures text))
          (c.loop-argument.invariant.all text
          ∙ ap (λ (ps : List Place). noted text (listed c.push.new.self) ++ map uses ps)
          (let past : length (map (place_in text) places) ≡ length places = length-map places (place_in text) in
          take_all i (map (place_in text) places) (omega (arith, past, c.loop-argument-test.false)) ∙ ap (λ (ps : List PlaceIn). map (place_in text) ps) c.as_slice-argument-items.ensures.all));
    }
