use Rattle.std.proofs.Common.{◌≡◌, ◌+◌, ◌<◌, ◌≤◌, ◌&&◌, ◌||◌, true, false, ltb, leb, get_or, replicate, ap, ◌∙◌, subst, rules, arith}
use Rattle.constraints.specs.Constraint.{variables}
use Rattle.constraints.specs.Lists.{system_of}
use Rattle.constraints.proofs.Sound.{list_valid}
use Rattle.flows.specs.Names.{NamesBelow}
use Rattle.flows.proofs.Opening.{block_end, flags_filled, opens_at}
use Rattle.flows.proofs.opened.open_taken.Goals as goal

pub slice_bounds-fill-end : goal.slice_bounds-fill-end
slice_bounds-fill-end c =
    let list = c.args.list.now in
    let blocks = (system_of list).blocks in
    let first = c.from-first.result in
    let named = subst (NamesBelow (variables blocks)) c.in-Address.is c.requires in
    let inside : first < variables blocks = omega (arith, named.1) in
    omega (arith, block_end blocks first inside, (list_valid list).few)

pub returns-in-Address : goal.returns-in-Address
returns-in-Address c v =
    let list = c.args.list.now in
    let blocks = (system_of list).blocks in
    let flags = c.args.flags.now in
    let first = c.from-first.result in
    let n = c.from.result in
    let named = subst (NamesBelow (variables blocks)) c.in-Address.is c.requires in
    let inside : first < variables blocks = omega (arith, named.1) in
    let fits : first + n ≤ 256 = omega (arith, block_end blocks first inside, (list_valid list).few) in
    let filled : c.fill.new.self ≡ replicate n true = search rules in
    flags_filled flags c.fill.new.self first n _ (omega arith) (omega arith) filled v
    ∙ ap (λ m. get_or flags v false || (leb first v && ltb v (first + m))) (c.from.ensures ∙ c.length_of.ensures)
    ∙ ap (λ b. get_or flags v false || b) (opens_at blocks c.args.constraint _ _ first v c.in-Address.is c.from-first.ensures)
