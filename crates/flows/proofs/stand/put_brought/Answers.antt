use Rattle.std.proofs.Common.{◌||◌, sym, ap, ◌∙◌, subst, arith}
use Rattle.constraints.specs.Merge.{brings}
use Rattle.graphs.specs.Matrix.{bit_at}
use Rattle.flows.specs.Columns.{source_at}
use Rattle.flows.specs.Names.{NamesBelow}
use Rattle.flows.proofs.Putting.{put_bit, brings_address, brings_load}
use Rattle.flows.proofs.stand.put_brought.Goals as goal

pub returns-in-Address : goal.returns-in-Address
returns-in-Address c u k hu hk =
    let old = c.args.stand.now.words in
    let named = subst (NamesBelow 256) c.in-Address.is c.requires in
    put_bit 80 old c.put.new.self.words c.from.result c.from-in-Address.result u k c.put.ensures hk
    ∙ ap (λ b. bit_at 80 old u k || b)
    (brings_address c.in-Address.left c.in-Address.object _ _ u k c.from.ensures c.from-in-Address.ensures named.1
    ∙ ap (brings (source_at k) u) (sym c.in-Address.is))

pub returns-in-Load : goal.returns-in-Load
returns-in-Load c u k hu hk =
    let old = c.args.stand.now.words in
    let named = subst (NamesBelow 256) c.in-Load.is c.requires in
    put_bit 80 old c.put-in-Load.new.self.words _ _ u k c.put-in-Load.ensures hk
    ∙ ap (λ b. bit_at 80 old u k || b)
    (brings_load c.in-Load.left c.in-Load.right c.in-Load.offset _ _ u k c.from-in-Load-3.ensures (omega arith) named.1 named.2
    ∙ ap (brings (source_at k) u) (sym c.in-Load.is))
