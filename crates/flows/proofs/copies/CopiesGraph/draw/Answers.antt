use Rattle.std.proofs.Common.{◌≡◌, ℕ, Bool, ◌||◌, length, get_or, sym, ap, ◌∙◌, arith}
use Rattle.constraints.specs.Finite.{any}
use Rattle.constraints.specs.Constraint.{decode}
use Rattle.constraints.specs.Lists.{system_of}
use Rattle.constraints.specs.Merge.{copies, copy_edge}
use Rattle.graphs.proofs.Words.{blank_bit}
use Rattle.graphs.specs.Matrix.{bit}
use Rattle.flows.proofs.Names.{names_small}
use Rattle.flows.proofs.Opening.{any_zero, any_more}
use Rattle.flows.proofs.copies.CopiesGraph.draw.Goals as goal

pub draw_edge-requires : goal.draw_edge-requires
draw_edge-requires c =
    names_small (system_of c.args.self.now.list.now) c.words-words.ensures.valid _ c.words-words.ensures.value c.loop-word.word-index
    (omega arith) _ c.decode.ensures.value

pub loop-word-init : goal.loop-word-init
loop-word-init c u v hu hv =
    blank_bit 2048 8 c.args.m.now.words u v c.requires (omega arith) (omega arith)
    ∙ any_zero (λ j. copies u v (decode (get_or c.words-words.result.now j 0)))

pub loop-word-preserved : goal.loop-word-preserved
loop-word-preserved c u v hu hv =
    let f : ℕ → Bool = λ j. copies u v (decode (get_or c.words-words.result.now j 0)) in
    let i = c.loop-word.word-index in
    c.draw_edge.ensures u v hu hv ∙ ap (λ k. bit c.loop-word.m.words u v || copies u v k) c.decode.ensures.value
    ∙ ap (λ b. b || f i) (c.loop-word.invariant u v hu hv) ∙ sym (any_more i f)

pub returns : goal.returns
unfolding copy_edge
returns c u v hu hv =
    let words = c.words-words.result.now in
    let end : c.loop-word.word-index ≡ length words = omega (arith, c.loop-word-test.false) in
    c.loop-word.invariant u v hu hv ∙ ap (λ n. any n (λ j. copies u v (decode (get_or words j 0)))) end
    ∙ ap (λ ws. any (length ws) (λ j. copies u v (decode (get_or ws j 0)))) c.words-words.ensures.value
