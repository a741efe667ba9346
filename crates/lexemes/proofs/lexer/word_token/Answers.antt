use Rattle.std.proofs.Common.{◌∷◌, sym, ap, ◌∙◌, arith}
use Rattle.lexemes.specs.Terminals.{Terminal, lexeme}
use Rattle.lexemes.specs.Lexemes.{pieces_from}
use Rattle.lexemes.proofs.Bytes.{word_long, word_read}
use Rattle.lexemes.proofs.lexer.word_token.Goals as goal

pub returns-then-end-at-gt-LONGEST_NAME : goal.returns-then-end-at-gt-LONGEST_NAME
returns-then-end-at-gt-LONGEST_NAME c = record { read = word_long _ _ _ c.requires.0 c.requires.1 c.name_end-end.ensures.all c.if-end-at-gt-LONGEST_NAME.true; onward = tt }

pub returns : goal.returns
returns c =
    record {
      read =
          word_read _ _ _ c.requires.0 c.requires.1 c.name_end-end.ensures.all c.if-end-at-gt-LONGEST_NAME.false
          ∙ ap (λ (l : Terminal). lexeme c.args.at l ∷ pieces_from c.args.text.now c.name_end-end.result) (sym c.spelled-lexeme.ensures);
      onward = omega (arith, c.name_end-end.ensures.all);
    }
