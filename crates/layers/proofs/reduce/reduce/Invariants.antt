use Rattle.std.proofs.Common.{◌≡◌, ◌≤◌, [], take}
use Rattle.arrayvec.specs.ArrayVec.{array_vec_len}
use Rattle.constraints.specs.Reduced.{reduce_onto}
use Rattle.layers.specs.Classes.{replacing}
use Rattle.layers.proofs.reduce.reduce.Given as goal

-- the words so far are reduced
abbrev pub invariant-loop-word : goal.invariant-loop-word
invariant-loop-word l =
    (array_vec_len l.list ≤ l.word-index) × (l.list.items ≡ reduce_onto (replacing l.reps) [] (take l.word-index l.words))
