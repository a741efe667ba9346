use Rattle.std.proofs.Common.{◌≡◌, ℕ, Bool, ◌&&◌, ◌||◌, length, get_or, sym, ap, ◌∙◌, arith}
use Rattle.graphs.specs.Matrix.{bit_at}
use Rattle.constraints.specs.Finite.{any}
use Rattle.constraints.specs.Constraint.{decode}
use Rattle.constraints.specs.Lists.{system_of}
use Rattle.constraints.specs.Merge.{is_open, row, same_source, brings, stands}
use Rattle.flows.specs.Columns.{source_at}
use Rattle.flows.proofs.Names.{names_small}
use Rattle.flows.proofs.Opening.{any_more, any_zero, or_none, or_assoc}
use Rattle.flows.proofs.stand.put_sources.Goals as goal

pub put_brought-requires : goal.put_brought-requires
put_brought-requires c =
    names_small (system_of c.args.list.now) c.words-words.ensures.valid _ c.words-words.ensures.value c.loop-word.word-index (omega arith) _
    c.decode.ensures.value

pub loop-word-init : goal.loop-word-init
loop-word-init c u k hu hk =
    let f : ℕ → Bool = λ j. brings (source_at k) u (decode (get_or c.words-words.result.now j 0)) in
    let base = is_open (system_of c.args.list.now) u && same_source (row u) (source_at k) in
    c.put_open.ensures u k hu hk ∙ ap (λ b. b && same_source (row u) (source_at k)) (c.find_open.ensures u) ∙ or_none base ∙ ap (λ b. base || b) (any_zero f)

pub loop-word-preserved : goal.loop-word-preserved
loop-word-preserved c u k hu hk =
    let f : ℕ → Bool = λ j. brings (source_at k) u (decode (get_or c.words-words.result.now j 0)) in
    let i = c.loop-word.word-index in
    let base = is_open (system_of c.args.list.now) u && same_source (row u) (source_at k) in
    c.put_brought.ensures u k hu hk ∙ ap (λ b. bit_at 80 c.loop-word.stand.words u k || brings (source_at k) u b) c.decode.ensures.value
    ∙ ap (λ b. b || f i) (c.loop-word.invariant u k hu hk) ∙ or_assoc base (any i f) (f i)
    ∙ ap (λ b. base || b) (sym (any_more i f))

pub returns : goal.returns
unfolding stands
returns c u k hu hk =
    let sys = system_of c.args.list.now in
    let words = c.words-words.result.now in
    let f : ℕ → Bool = λ j. brings (source_at k) u (decode (get_or words j 0)) in
    let end : c.loop-word.word-index ≡ length words = omega (arith, c.loop-word-test.false) in
    c.loop-word.invariant u k hu hk
    ∙ ap (λ n. (is_open sys u && same_source (row u) (source_at k)) || any n f) end
    ∙ ap (λ ws. (is_open sys u && same_source (row u) (source_at k)) || any (length ws) (λ j. brings (source_at k) u (decode (get_or ws j 0)))) c.words-words.ensures.value
