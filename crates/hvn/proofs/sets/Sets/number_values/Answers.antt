use Rattle.std.proofs.Common.{◌≡◌, ◌+◌, ◌<◌, get_or, set, replicate, refl, sym, ◌∙◌, subst, subst₂, rules, arith}
use Rattle.std.proofs.lemmas.List.{get_or-take, length-take}
use Rattle.constraints.specs.Constraint.{var_count}
use Rattle.constraints.specs.Lists.{system_of}
use Rattle.constraints.proofs.Sound.{list_valid}
use Rattle.flows.proofs.Names.{names_small}
use Rattle.hvn.specs.Columns.{RowDone}
use Rattle.hvn.proofs.Progress.{Progress, numbers_zero, progress_none, progress_more, progress_numbers}
use Rattle.hvn.proofs.sets.Sets.number_values.Goals as goal

pub loop-k-init : goal.loop-k-init
loop-k-init c =
    let zeros : c.fill.new.self ≡ replicate 256 0 = search rules in
    progress_none (system_of c.args.list.now) c.args.flow.now.order c.clear.new.self.words c.fill.new.self
    (λ v. numbers_zero c.fill.new.self 256 v zeros) c.clear.ensures

pub number_at-x-requires-clause-words : goal.number_at-x-requires-clause-words
number_at-x-requires-clause-words c i lt =
    names_small (system_of c.args.list.now) c.words-words.ensures.valid _ c.words-words.ensures.value i lt _ refl

pub loop-k-preserved : goal.loop-k-preserved
loop-k-preserved c =
    let sys = system_of c.args.list.now in
    let valid = list_valid c.args.list.now in
    let flow = c.args.flow.now in
    let found = c.requires in
    let k = c.loop-k.k in
    let rows = c.loop-k.self.rows.words in
    let rows' = c.number_at-x.new.self.rows.words in
    let number = c.loop-k.number in
    let x = c.number_at-x.result in
    let within : k < flow.count = omega (arith, length-take flow.count flow.order) in
    let inside : k < var_count sys = omega (arith, found.counted) in
    let v_is : c.from-v.result ≡ get_or flow.order k 0 = c.from-v.ensures ∙ get_or-take flow.count flow.order k 0 within in
    let done = subst (λ v. RowDone sys.words flow.flags flow.reach.words number (var_count sys) rows rows' k v x) v_is
    (subst₂ (λ ws n. RowDone ws flow.flags flow.reach.words number n rows rows' k c.from-v.result x)
    c.words-words.ensures.value found.counted c.number_at-x.ensures.is) in
    subst (λ v. Progress sys flow.order rows' (set number v x) (k + 1)) (sym v_is)
    (progress_more sys valid flow.flags found.opened flow.reach.words flow.order found.reaches found.arranged
    rows rows' number k x inside (omega (arith, found.arranged.inside k inside, valid.few))
    c.loop-k.invariant c.number_at-x.ensures.others done c.number_at-x.ensures.small)

pub returns : goal.returns
returns c =
    let sys = system_of c.args.list.now in
    let flow = c.args.flow.now in
    let end : c.loop-k.k ≡ var_count sys = omega (arith, c.requires.counted, c.loop-k-test.false, length-take flow.count flow.order) in
    progress_numbers sys flow.order c.loop-k.self.rows.words c.loop-k.number c.requires.arranged
    (subst (Progress sys flow.order c.loop-k.self.rows.words c.loop-k.number) end c.loop-k.invariant)
