use Rattle.std.proofs.Common.{◌≡◌, false, Err, sym, ap, ◌∙◌, subst, subst₂}
use Rattle.constraints.specs.Constraint.{Valid}
use Rattle.constraints.specs.Lists.{system_of}
use Rattle.engine.specs.Meanings.{gathering, Settles}
use Rattle.constraints.proofs.Sound.{list_valid}
use Rattle.layers.specs.Layered.{handed, layered, raised}
use Rattle.layers.proofs.Planning.{named}
use Rattle.layers.proofs.Delegating.{gathers, layer_refused}
use Rattle.layers.proofs.merging.MergingEngine.settle.Goals as goal

pub hand_plan-requires : goal.hand_plan-requires
hand_plan-requires g c =
    let plan = c.prepare.new.plan in
    let sys = system_of plan.own in
    subst (λ l. Valid (record { blocks = sys.blocks; words = l })) (sym c.prepare.ensures.ready.listed)
    (g.M.Merge.right sys (list_valid plan.own)).still_valid

pub raise-requires-clause-named : goal.raise-requires-clause-named
raise-requires-clause-named g c =
    let plan = c.prepare.new.plan in
    let ready = c.prepare.ensures.ready in
    named (system_of plan.own) (list_valid plan.own) g.M.Merge.same plan.reps.items ready.covers ready.told ready.within

pub returns-in-Err : goal.returns-in-Err
returns-in-Err g c =
    let e = g.E.Engine in
    let s = c.args.self.now in
    let same = g.M.Merge.same in
    let plan = c.prepare.new.plan in
    let sys = system_of plan.own in
    let ready = c.prepare.ensures.ready in
    let m = e.meaning s.below in
    let n = e.meaning c.settle.new.self in
    let fault = c.in-Err.fault in
    let own : s.settled ≡ false = gathers s.settled (sym c.gathering.ensures ∙ c.in_ok-gathering.was) in
    let given : e.meaning c.hand_plan.new.below ≡ gathering m (handed same sys) =
    c.hand_plan.ensures.after ∙ ap (λ l. gathering m (record { blocks = sys.blocks; words = l })) ready.listed in
    let told : c.raise.result ≡ raised same sys fault = c.raise.ensures same ready in
    let refused : Settles (layered same m sys s.settled) (layered same n sys s.settled) (Err (raised same sys fault)) =
    layer_refused same g.M.Merge.right m (e.meaning c.hand_plan.new.below) n sys s.settled fault (list_valid plan.own) own given
    c.in-Err.ensures.settles in
    record {
      settles =
          subst₂ (λ q f. Settles (layered same m (system_of q) s.settled) (layered same n sys s.settled) (Err f))
          c.prepare.ensures.own (sym told) refused;
    }
