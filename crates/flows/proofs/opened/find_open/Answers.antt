use Rattle.std.proofs.Common.{◌≡◌, ℕ, Bool, false, ◌||◌, length, get_or, replicate, rules, sym, ap, ◌∙◌, arith}
use Rattle.constraints.specs.Finite.{any}
use Rattle.constraints.specs.Constraint.{decode}
use Rattle.constraints.specs.Lists.{system_of}
use Rattle.flows.specs.Opens.{opens}
use Rattle.flows.proofs.Names.{names_word}
use Rattle.flows.proofs.Opening.{flag_replicate, any_zero, any_more, opened_is}
use Rattle.flows.proofs.opened.find_open.Goals as goal

pub open_taken-requires : goal.open_taken-requires
open_taken-requires c =
    names_word (system_of c.args.list.now) c.words-words.ensures.valid _ c.words-words.ensures.value c.loop-word.word-index (omega arith) _
    c.decode.ensures.value

pub loop-word-init : goal.loop-word-init
loop-word-init c v =
    let cleared : c.fill.new.self ≡ replicate 256 false = search rules in
    ap (λ flags. get_or flags v false) cleared ∙ flag_replicate 256 v false
    ∙ any_zero (λ j. opens (system_of c.args.list.now).blocks (decode (get_or c.words-words.result.now j 0)) v)

pub loop-word-preserved : goal.loop-word-preserved
loop-word-preserved c v =
    let blocks = (system_of c.args.list.now).blocks in
    let f : ℕ → Bool = λ j. opens blocks (decode (get_or c.words-words.result.now j 0)) v in
    let i = c.loop-word.word-index in
    c.open_taken.ensures v ∙ ap (λ k. get_or c.loop-word.flags v false || opens blocks k v) c.decode.ensures.value
    ∙ ap (λ b. b || f i) (c.loop-word.invariant v) ∙ sym (any_more i f)

pub returns : goal.returns
returns c v =
    let sys = system_of c.args.list.now in
    let words = c.words-words.result.now in
    let end : c.loop-word.word-index ≡ length words = omega (arith, c.loop-word-test.false) in
    c.loop-word.invariant v ∙ ap (λ n. any n (λ j. opens sys.blocks (decode (get_or words j 0)) v)) end
    ∙ ap (λ ws. any (length ws) (λ j. opens sys.blocks (decode (get_or ws j 0)) v)) c.words-words.ensures.value
    ∙ opened_is sys v
