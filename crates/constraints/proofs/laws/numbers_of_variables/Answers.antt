use Rattle.std.proofs.Common.{T, ap, ◌∙◌}
use Rattle.constraints.specs.Constraint.{length_of}
use Rattle.constraints.proofs.Blocks.{length_of_start, object_start, slot_unique}
use Rattle.constraints.proofs.Embed.{renumbered, embeds_pairs}
use Rattle.constraints.proofs.laws.numbers_of_variables.Goals as goal

pub returns : goal.returns
returns c =
    record {
      renumbered = λ V. renumbered (λ v w. T (V v w));
      embedded = λ V. embeds_pairs (λ v w. T (V v w));
      objects = λ blocks positive o some.
          let (i, i_in, same) = object_start blocks o some in
          (i, i_in, same, ap (length_of blocks) same ∙ length_of_start blocks i positive i_in);
      slots = slot_unique;
    }
