use Rattle.std.proofs.Common.{◌∙◌, subst}
use Rattle.graphs.specs.Paths.{Spread}
use Rattle.graphs.proofs.Closing.{spread_through}
use Rattle.graphs.proofs.reach.through.Goals as goal

pub returns : goal.returns
returns c =
    let row = c.copy_from_slice.ensures.after ∙ c.row.ensures.value in
    spread_through _ _ _ (subst (λ words. Spread c.args.k words c.args.m.now.words c.spread.new.m.words) row c.spread.ensures)
