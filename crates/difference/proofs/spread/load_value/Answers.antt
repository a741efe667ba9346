use Rattle.std.proofs.Common.{rules, ◌≡◌, ◌+◌, ◌<◌, sym, ◌∙◌}
use Rattle.constraints.specs.Constraint.{length_of}
use Rattle.constraints.specs.Lists.{system_of}
use Rattle.walks.proofs.Growth.{grown_weaker}
use Rattle.walks.proofs.Scans.{true-T}
use Rattle.difference.proofs.spread.load_value.Goals as goal

pub returns-then-branch : goal.returns-then-branch
returns-then-branch g c =
    let y = c.in-Some.y in
    let is : y + c.args.k ≡ c.args.pair.variable = search rules in
    let longer : c.args.k < length_of (system_of c.args.list.now).blocks y = search rules in
    grown_weaker _ _ _ _ _ _ (λ R m h. m y is longer (h _ _ (true-T (sym c.in_ok-holds.ensures ∙ c.if-branch.true))))
    (λ d y e b p. d) _ (rw c.from-then-branch.ensures at c.add.ensures)
