use Rattle.std.proofs.Common.{refl, ap, ◌∙◌}
use Rattle.graphs.specs.Matrix.{bit_at}
use Rattle.graphs.specs.declared.bits.BitMatrix.{BitMatrix}
use Rattle.hvn.specs.Columns.{by_open, by_row}
use Rattle.hvn.proofs.sets.Sets.number_at.Goals as goal

pub returns-in-Some-clause-is : goal.returns-in-Some-clause-is
returns-in-Some-clause-is c = by_open c.in-Some.f c.in-Some.ensures refl (λ d h. refl)

pub returns-in-None-clause-is : goal.returns-in-None-clause-is
returns-in-None-clause-is c =
    by_row c.in-None.ensures
    (λ d h. ap (λ (m : BitMatrix 88 22528). bit_at 88 m.words c.args.k d) c.number_row.ensures.rows ∙ c.fill.ensures.row d h)
    c.number_row.ensures.is
