use Rattle.std.proofs.Common.{◌≡◌, length, take, rules, ap, ◌∙◌, ◌+◌, count_by, min}
use Rattle.lexemes.proofs.Bytes.{take_min}
use Rattle.lexemes.specs.Lines.{is_line_feed}
use Rattle.lexemes.proofs.location.line_of.Goals as goal

pub returns : goal.returns
returns c = let e : c.count.result ≡ count_by is_line_feed (take (min c.args.offset (length c.args.text.now)) c.args.text.now) = search rules in ap (λ n. 1 + n) e ∙ ap (λ bs. 1 + count_by is_line_feed bs) (take_min c.args.offset c.args.text.now)
