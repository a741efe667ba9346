use Rattle.std.proofs.Common.{◌≡◌, ℕ, ◌<◌, [], length, get_or, ◌∙◌, ap₂, arith}
use Rattle.constraints.specs.Constraint.{var_count}
use Rattle.constraints.specs.Reduced.{reduce_onto}
use Rattle.constraints.specs.Lists.{system_of}
use Rattle.constraints.proofs.Sound.{list_valid}
use Rattle.layers.specs.Classes.{Flags, Representatives, replacing}
use Rattle.layers.proofs.Planning.{reduced_by}
use Rattle.layers.proofs.merging.prepare.Goals as goal

pub returns-clause-ready : goal.returns-clause-ready
returns-clause-ready g c =
    let p = c.args.plan.now.own in
    let sys = system_of p in
    let same = g.M.Merge.same in
    let reps = c.represent.new.reps.items in
    let width : c.variables-count.result ≡ var_count sys = c.variables-count.ensures.value in
    let flags : Flags sys c.find_open.new.flags = λ v _. c.find_open.ensures v in
    let told : Representatives sys (same sys) reps = c.represent.ensures.value sys (same sys) width flags c.classify.ensures in
    let within : (v : ℕ) → v < var_count sys → get_or reps v 0 < var_count sys =
    λ v h. omega (arith, width, c.represent.ensures.within v (omega (arith, width))) in
    let covers : length reps ≡ var_count sys = c.represent.ensures.long ∙ width in
    record {
      told = told;
      within = within;
      covers = covers;
      listed = c.reduce.ensures
          ∙ ap₂ (λ r l. reduce_onto (replacing r) [] l) c.deref.ensures.0 c.words.ensures.value
          ∙ reduced_by sys (list_valid p) same reps covers told within;
    }
