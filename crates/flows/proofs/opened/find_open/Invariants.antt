use Rattle.std.proofs.Common.{◌≡◌, ℕ, false, get_or}
use Rattle.constraints.specs.Finite.{any}
use Rattle.constraints.specs.Constraint.{decode}
use Rattle.constraints.specs.Lists.{system_of}
use Rattle.flows.specs.Opens.{opens}
use Rattle.flows.proofs.opened.find_open.Given as goal

-- the variables that the words so far open
abbrev pub invariant-loop-word : goal.invariant-loop-word
invariant-loop-word l =
    (v : ℕ) → get_or l.flags v false ≡ any l.word-index (λ j. opens (system_of l.list).blocks (decode (get_or l.words j 0)) v)
