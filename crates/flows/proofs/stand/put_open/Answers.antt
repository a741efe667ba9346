use Rattle.std.proofs.Common.{◌≡◌, ◌+◌, false, ◌&&◌, ◌||◌, eqb, ltb, get_or, sym, ap, subst, ◌∙◌, arith}
use Rattle.graphs.specs.Matrix.{bit_at}
use Rattle.graphs.specs.declared.bits.BitMatrix.{BitMatrix}
use Rattle.graphs.proofs.Words.{blank_bit}
use Rattle.constraints.specs.Merge.{row, same_source}
use Rattle.flows.specs.Columns.{source_at}
use Rattle.flows.proofs.Putting.{row_put, rows_none, rows_more, rows_all}
use Rattle.flows.proofs.Opening.{or_none}
use Rattle.flows.proofs.stand.put_open.Goals as goal
use Rattle.flows.proofs.stand.put_open.Goals.{then-is_open, else-is_open}

pub loop-v-init : goal.loop-v-init
loop-v-init c u k hu hk =
    blank_bit 20480 80 c.clear.new.self.words u k c.clear.ensures (omega arith) hk ∙ rows_none c.args.flags.now u k

pub loop-v-preserved : goal.loop-v-preserved
loop-v-preserved c u k hu hk =
    let flags = c.args.flags.now in
    let v = c.loop-v.v in
    let old = bit_at 80 c.loop-v.stand.words u k in
    let told = c.loop-v.invariant u k hu hk in
    let brought = eqb v u && same_source (row v) (source_at k) in
    let Told : BitMatrix 80 20480 → Type 0 =
    λ m. bit_at 80 m.words u k ≡ (ltb u (v + 1) && (get_or flags u false && same_source (row u) (source_at k))) in
    elim c.if-is_open.branch [
      | then-is_open w ↦
          let now = row_put c.loop-v.stand.words w.put.new.self.words v u k c.loop-v-test.true w.put.ensures hk in
          subst Told (sym w.stand-is)
          (rows_more flags v u k old _ told (now ∙ ap (λ b. old || (b && brought)) (sym w.if-is_open.true)))
      | else-is_open w ↦
          subst Told (sym w.stand-is)
          (rows_more flags v u k old old told (or_none old ∙ ap (λ b. old || (b && brought)) (sym w.if-is_open.false)))
    ]

pub returns : goal.returns
returns c u k hu hk = c.loop-v.invariant u k hu hk ∙ rows_all c.args.flags.now u k c.loop-v.v (omega (arith, c.loop-v-test.false))
