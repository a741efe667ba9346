use Rattle.std.proofs.Common.{◌∙◌, sym, ⊎_elim}
use Rattle.std.proofs.lemmas.List.{at_drop_all}
use Rattle.lexemes.specs.declared.class.Class.TheVariants.{Other}
use Rattle.lexemes.specs.Lexemes.{pieces}
use Rattle.lexemes.proofs.Bytes.{pieces_begin}
use Rattle.lexemes.proofs.lexer.next_token.Goals as goal

pub returns-then-first-text : goal.returns-then-first-text
returns-then-first-text c = record { read = c.skip_blanks-first.ensures.same ∙ at_drop_all (pieces c.skip_blanks-first.result 0) _ _ c.if-first-text.true; onward = tt }

pub returns-in-Blank-clause-read : goal.returns-in-Blank-clause-read
returns-in-Blank-clause-read c =
    c.skip_blanks-first.ensures.same
    ∙ ⊎_elim (λ e. absurd (c.skip_blanks-first.ensures.stops c.if-first-text.false (sym c.class_of.ensures ∙ e)))
    (λ e. pieces_begin _ _ Other c.if-first-text.false (sym e ∙ c.class_of.ensures)) c.in-Blank.is
