-- Each entry of the table passes the test, and so is right.
use Rattle.std.proofs.Common.{◌&&◌, T, List, [], ◌∷◌}
use Rattle.constraints.specs.Finite.{any, every, lowest, sum, count}
use Rattle.constraints.specs.Constraint.{length_of, decode, taken}
use Rattle.constraints.specs.Least.{follows}
use Rattle.constraints.specs.Merge.{is_open, copy_edge, stands, mark, agree, equal_mark, representative}
use Rattle.constraints.specs.Value.{same_value, collect, elements, component_value, component, value_to, value}
use Rattle.constraints.specs.Reduced.{renamed_word, self_copy, stands_in, keep_word, reduce_onto, replaced}
use Rattle.constraints.specs.Outcome.{is_outcome}
use Rattle.constraints.specs.MergeOutcome.{is_reach, all_reductions}
use Rattle.constraints.specs.Known.{Known, all_known, Right, table}
use Rattle.constraints.proofs.Finite.{and_left, and_right}
use Rattle.constraints.proofs.Outcome.{outcome_least}
use Rattle.constraints.proofs.MergeOutcome.{reductions_right}

all_right : (ks : List Known) → T (all_known ks) → Right ks
all_right [] t = tt
all_right (k ∷ ks) t =
    let solved = is_outcome k.system k.solution in
    let merged = all_reductions k.system k.reductions in
    let here : T (solved && merged) = and_left (solved && merged) (all_known ks) t in (
      outcome_least k.system k.solution (and_left solved merged here),
      reductions_right k.system k.reductions (and_right solved merged here),
      all_right ks (and_right (solved && merged) (all_known ks) t),
    )

pub table_right : Right table
unfolding any every lowest sum count follows decode length_of taken is_open copy_edge stands mark agree equal_mark representative same_value collect elements component_value component value_to value renamed_word self_copy stands_in keep_word reduce_onto replaced is_reach is_outcome
table_right = all_right table tt
