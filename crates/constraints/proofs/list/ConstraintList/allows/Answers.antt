use Rattle.std.proofs.Common.{sym, ap, ◌∙◌}
use Rattle.std.proofs.lemmas.Bool.{false≢true}
use Rattle.constraints.specs.Encoding.{encode}
use Rattle.constraints.specs.Words.{names}
use Rattle.constraints.proofs.Encoding.{decode_back, plain_if, same_word, word_same}
use Rattle.constraints.proofs.Formed.{not_word, names_word, plain_parts}
use Rattle.constraints.proofs.list.ConstraintList.allows.Goals as goal

pub returns-then-eq : goal.returns-then-eq
returns-then-eq c =
    let w = c.args.word in
    let bs = c.args.self.now.lengths.items in
    let same = same_word c.encode.result w (sym c.eq.ensures ∙ c.if-eq.true) in
    let decoded = c.decode-constraint.ensures.value in
    let plain = plain_if w c.ranges.word.fits (ap encode (sym decoded) ∙ sym c.encode.ensures.value ∙ same) in
    c.names.ensures ∙ ap (names bs) decoded ∙ names_word bs w plain

pub returns-else-eq : goal.returns-else-eq
returns-else-eq c =
    let w = c.args.word in
    c.if-eq.false ∙ not_word c.args.self.now.lengths.items w (λ p.
    let back = c.encode.ensures.value ∙ ap encode c.decode-constraint.ensures.value ∙ decode_back w (plain_parts _ w p) in
    false≢true (sym c.if-eq.false ∙ c.eq.ensures ∙ word_same c.encode.result w back))
