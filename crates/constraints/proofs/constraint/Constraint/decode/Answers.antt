use Rattle.std.proofs.Common.{sym, ◌∙◌, ap}
use Rattle.constraints.specs.Encoding.{encode}
use Rattle.constraints.proofs.Encoding.{decode_kind, decode_back}
use Rattle.constraints.proofs.constraint.Constraint.decode.Goals as goal

pub returns-in-Address : goal.returns-in-Address
returns-in-Address c =
    let is = decode_kind c.args.word 0 (sym (rw c.in-Address.is at c.of.ensures)) in
    record { value = is; back = λ plain. ap encode is ∙ decode_back c.args.word plain }

pub returns-in-Copy : goal.returns-in-Copy
returns-in-Copy c =
    let is = decode_kind c.args.word 1 (sym (rw c.in-Copy.is at c.of.ensures)) in
    record { value = is; back = λ plain. ap encode is ∙ decode_back c.args.word plain }

pub returns-in-Load : goal.returns-in-Load
returns-in-Load c =
    let is = decode_kind c.args.word 2 (sym (rw c.in-Load.is at c.of.ensures)) in
    record { value = is; back = λ plain. ap encode is ∙ decode_back c.args.word plain }

pub returns-in-Store : goal.returns-in-Store
returns-in-Store c =
    let is = decode_kind c.args.word 3 (sym (rw c.in-Store.is at c.of.ensures)) in
    record { value = is; back = λ plain. ap encode is ∙ decode_back c.args.word plain }
