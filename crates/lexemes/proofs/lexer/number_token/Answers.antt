use Rattle.std.proofs.Common.{sym, arith}
use Rattle.std.proofs.lemmas.Bool.{le-leb, lt-leb, and_left, and_right, and_from, not_from_true, not_from_false}
use Rattle.lexemes.proofs.Bytes.{number_none, number_read}
use Rattle.lexemes.proofs.lexer.number_token.Goals as goal
use Rattle.lexemes.proofs.lexer.number_token.Goals.{then-text-at-gt-LAST_DIGIT-via-then-text-at-gt-LAST_DIGIT, then-text-at-gt-LAST_DIGIT-via-else-text-at-gt-LAST_DIGIT+then-digit_at}

pub returns-then-text-at-gt-LAST_DIGIT : goal.returns-then-text-at-gt-LAST_DIGIT
returns-then-text-at-gt-LAST_DIGIT c =
    record {
      read =
          elim c.then-text-at-gt-LAST_DIGIT.branch [
            | then-text-at-gt-LAST_DIGIT-via-then-text-at-gt-LAST_DIGIT w ↦ number_none _ _ c.requires.0 c.requires.1 (and_left _ _ (lt-leb _ _ w.if-text-at-gt-LAST_DIGIT.true))
            | then-text-at-gt-LAST_DIGIT-via-else-text-at-gt-LAST_DIGIT+then-digit_at w ↦ number_none _ _ c.requires.0 c.requires.1 (and_right _ _ (not_from_true _ (sym w.if-digit_at.ensures)))
          ];
      onward = tt;
    }

pub returns : goal.returns
returns c =
    record {
      read = number_read _ _ c.requires.0 c.requires.1 (and_from _ _ (le-leb _ _ c.if-text-at-gt-LAST_DIGIT.false) (not_from_false _ (sym c.if-digit_at.ensures)));
      onward = omega arith;
    }
