use Rattle.std.proofs.Common.{sym, ◌∙◌}
use Rattle.constraints.specs.Constraint.{address, copy, load, store}
use Rattle.constraints.proofs.Encoding.{encode_back}
use Rattle.constraints.proofs.constraint.Constraint.encode.Goals as goal

pub returns-in-Address-clause-back : goal.returns-in-Address-clause-back
returns-in-Address-clause-back c =
    rw c.in-Address.is (λ w e. encode_back (address c.in-Address.left c.in-Address.object) w (sym c.word_of.ensures ∙ e))

pub returns-in-Copy-clause-back : goal.returns-in-Copy-clause-back
returns-in-Copy-clause-back c =
    rw c.in-Copy.is (λ w e. encode_back (copy c.in-Copy.left c.in-Copy.right) w (sym c.word_of-in-Copy.ensures ∙ e))

pub returns-in-Load-clause-back : goal.returns-in-Load-clause-back
returns-in-Load-clause-back c =
    rw c.in-Load.is (λ w e. encode_back (load c.in-Load.left c.in-Load.right c.in-Load.offset) w (sym c.word_of-in-Load.ensures ∙ e))

pub returns-in-Store-clause-back : goal.returns-in-Store-clause-back
returns-in-Store-clause-back c =
    rw c.in-Store.is (λ w e. encode_back (store c.in-Store.left c.in-Store.offset c.in-Store.right) w (sym c.word_of-in-Store.ensures ∙ e))
