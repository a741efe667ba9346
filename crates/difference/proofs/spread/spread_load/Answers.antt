use Rattle.std.proofs.lemmas.Result.{err_from_is_err_and}
use Rattle.constraints.specs.Rows.{pairs}
use Rattle.constraints.specs.Constraint.{Meets}
use Rattle.constraints.specs.Lists.{system_of}
use Rattle.constraints.specs.declared.constraint.Constraint.TheVariants.{Load}
use Rattle.walks.proofs.Growth.{grows_none, grows_weaker, grown_refused, grown_after}
use Rattle.difference.proofs.spread.spread_load.Goals as goal

pub returns-in_err-load_base : goal.returns-in_err-load_base
returns-in_err-load_base g c =
    let sys = system_of c.args.list.now in
    let exit = err_from_is_err_and c.from_residual.result c.from_residual.ensures.1 in
    grown_refused (g.met.G.Grower.onward sys) _ _ _ _ _ (grows_none _ _ _ (g.met.G.Grower.still sys) (λ R. Meets sys.blocks (Load c.args.p c.args.q c.args.k) (pairs R)) _)
    (λ R m h e b x t. m c.args.pair.object x (rw e (h _ _ c.requires.held)) b t) _ _ _ _ c.in_err-load_base.ensures (rw (exit.1, exit.2))

pub returns : goal.returns
returns g c =
    let sys = system_of c.args.list.now in
    let base = c.in_ok-load_base.ensures in
    let later = c.load_value.ensures.grows.more in
    grown_after (g.met.G.Grower.onward sys) (λ R. Meets sys.blocks (Load c.args.p c.args.q c.args.k) (pairs R)) _ _ _ _
    (grows_weaker (λ R m h e b x t. m c.args.pair.object x (rw e (h _ _ c.requires.held)) b t) base.grows)
    (λ R m h y e b l. m y c.args.pair.object l b (rw e (h _ _ (base.grows.more _ _ c.requires.held)))) _ _ (λ value. (λ e b x h. later _ _ (base.ends e b x h), λ y e b h. value y e b (base.grows.more _ _ h)))
    _ c.load_value.ensures
