use Rattle.std.proofs.Common.{ℕ, List, length, ap, ◌∙◌}
use Rattle.std.proofs.lemmas.List.{at_drop_all}
use Rattle.lexemes.specs.Terminals.{Piece}
use Rattle.lexemes.specs.Lexemes.{pieces, pieces_from}
use Rattle.lexemes.specs.Texts.{first_at}
use Rattle.lexemes.proofs.Bytes.{first_at_lem}
use Rattle.grammar.specs.Automaton.{start}
use Rattle.grammar.specs.Parse.{parse}
use Rattle.grammar.proofs.reader.next_item.Goals as goal

pub returns-then-start-text : goal.returns-then-start-text
returns-then-start-text c =
    let all = c.skip_blanks-start.ensures.same ∙ at_drop_all (pieces c.skip_blanks-start.result 0) _ _ c.if-start-text.true in
    record { read = ap (λ (ps : List Piece). parse (length c.args.text.now) (first_at ps) start ps) all; further = tt }

pub loop-token-init : goal.loop-token-init
loop-token-init c =
    let blanks = c.skip_blanks-start.ensures in
    let first = first_at_lem c.args.text.now _ c.if-start-text.false (blanks.stops c.if-start-text.false) in (
      blanks.after,
      ap (λ (ps : List Piece). parse (length c.args.text.now) (first_at ps) start ps) blanks.same
          ∙ ap (λ (b : ℕ). parse (length c.args.text.now) b start (pieces_from c.args.text.now c.skip_blanks-start.result)) first,
    )
