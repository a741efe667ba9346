use Rattle.constraints.specs.Merge.{copy_reach, same_mark}
use Rattle.constraints.specs.Value.{value_class, value}
use Rattle.constraints.proofs.Merge.{marks_rows, same_mark_rows, same_mark_refl, reduced_rows, reduced_within}
use Rattle.constraints.proofs.Value.{equal_value_rows, same_value_refl}
use Rattle.constraints.proofs.Valid.{keeps_rows, own_position_is}
use Rattle.constraints.proofs.Graph.{reaches_walk, walk_reaches}
use Rattle.constraints.proofs.laws.merging.Goals as goal

pub returns : goal.returns
returns c =
    record {
      reach = λ n edge u v. (reaches_walk n edge u v, walk_reaches n edge u v);
      marks = marks_rows;
      reduction = λ sys small rep reduces same_rows OpenStays.
          (reduced_rows sys small rep reduces same_rows OpenStays, reduced_within sys small rep reduces same_rows OpenStays);
      by_mark = λ sys valid. keeps_rows sys (same_mark sys) valid (same_mark_refl sys) (same_mark_rows sys valid);
      by_value = λ sys valid. keeps_rows sys (value_class sys) valid (λ v. same_value_refl (value sys (copy_reach sys) v)) (equal_value_rows sys valid);
      own_position = own_position_is;
    }
