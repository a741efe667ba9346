use Rattle.std.proofs.Common.{◌≡◌, ◌+◌, ◌<◌, length, get_or, take, set, sym, ap, ◌∙◌, arith}
use Rattle.std.proofs.lemmas.List.{take_all}
use Rattle.units.specs.Listing.{overlaid}
use Rattle.books.specs.Targets.{line}
use Rattle.host_analyser.proofs.Lines.{line_more, line_end}
use Rattle.host_analyser.proofs.listing.put_line.Goals as goal

pub loop-k-preserved : goal.loop-k-preserved
loop-k-preserved c =
    let short = take c.min.result c.args.name.now in
    let k = c.loop-k.k in
    let inside : k < length short = omega arith in
    c.put.ensures ∙ ap (λ o. set o (c.args.n + k) (get_or short k 0)) c.loop-k.invariant ∙ line_more c.args.out.now short c.args.n k inside

pub returns-clause-written : goal.returns-clause-written
returns-clause-written c fits =
    let name = c.args.name.now in
    let out = c.args.out.now in
    let n = c.args.n in
    let short = take c.min.result name in
    let k = c.loop-k.k in
    let all : k ≡ length short = omega (arith, c.loop-k-test.false, c.loop-k.auto.k-end) in
    let same : short ≡ name = take_all c.min.result name (omega (arith, c.min.ensures)) in
    c.put-2.ensures
    ∙ ap (λ o. set o (n + length short) 10) c.loop-k.invariant
    ∙ ap (λ j. set (overlaid out n (take k short)) (n + j) 10) (sym all)
    ∙ line_end out short n k all
    ∙ ap (λ x. overlaid out n (line x)) same
