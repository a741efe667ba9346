use Rattle.std.proofs.Common.{rules, ◌≡◌, ℕ, ◌<◌, List, length, take, get_or, ap, ◌∙◌, ⊎_elim, arith}
use Rattle.std.proofs.lemmas.Bool.{cases_eq}
use Rattle.std.proofs.lemmas.List.{get_or-take, length-take}
use Rattle.std.proofs.lemmas.Result.{err_from_is_err_and}
use Rattle.constraints.specs.Constraint.{decode, constraint}
use Rattle.constraints.specs.declared.constraint.Constraint.{Constraint}
use Rattle.constraints.specs.Lists.{system_of}
use Rattle.walks.proofs.Growth.{grows_then, grown_refused}
use Rattle.walks.proofs.Fronts.{word_below, met_first}
use Rattle.difference.proofs.Handing.{handed_moved}
use Rattle.difference.proofs.spread.hand_on.Goals as goal

-- the words gone over are the first n, so the word at place j of them is the word at place j
at : (words ws front : List ℕ) (n j : ℕ) (c : Constraint) → words ≡ ws → j < length front → c ≡ decode (get_or front j 0) → front ≡ take n words
    → (c ≡ decode (get_or ws j 0)) × (j < n)
at words ws front n j c same lt is first =
    let lt' : j < length (take n words) = rw first at lt in
    let below : j < n = omega (arith, length-take n words, lt') in
    (is ∙ ap (λ l. decode (get_or l j 0)) first ∙ ap decode (get_or-take n words j 0 below) ∙ ap (λ l. decode (get_or l j 0)) same, below)

pub spread-requires : goal.spread-requires
spread-requires g c =
    let sys = system_of c.args.list.now in
    let j = c.loop-word.word-index in
    let (is, lt) : (c.decode.result ≡ constraint sys j) × (j < c.args.n) = at c.words.result.now sys.words _ c.args.n j _ c.words.ensures.value c.loop-word-test.true c.decode.ensures.value (search rules) in
    record {
      known = rw is (word_below sys c.words.ensures.valid j (omega (arith, c.requires.short)));
      held = c.loop-word.invariant.0.more _ _ c.requires.held;
    }

pub returns-in_err-spread : goal.returns-in_err-spread
returns-in_err-spread g c =
    let sys = system_of c.args.list.now in
    let j = c.loop-word.word-index in
    let (is, lt) : (c.decode.result ≡ constraint sys j) × (j < c.args.n) = at c.words.result.now sys.words _ c.args.n j _ c.words.ensures.value c.loop-word-test.true c.decode.ensures.value (search rules) in
    let exit = err_from_is_err_and c.from_residual.result c.from_residual.ensures.1 in
    grown_refused (g.met.G.Grower.onward sys) _ _ _ _ _ c.loop-word.invariant.0
    (λ R m h. rw is (met_first sys c.args.n R m j lt (omega (arith, c.requires.short))))
    _ _ _ _ c.in_err-spread.ensures (rw (exit.1, exit.2))

pub loop-word-preserved : goal.loop-word-preserved
loop-word-preserved g c =
    let sys = system_of c.args.list.now in
    let j = c.loop-word.word-index in
    let pair = c.args.pair in
    let (is, lt) : (c.decode.result ≡ constraint sys j) × (j < c.args.n) = at c.words.result.now sys.words _ c.args.n j _ c.words.ensures.value c.loop-word-test.true c.decode.ensures.value (search rules) in
    let done = c.in_ok-spread.ensures in
    let before = c.loop-word.invariant.0 in (
      grows_then (g.met.G.Grower.onward sys) _ _ _ _ _ before
          (λ R m h. rw is (met_first sys c.args.n R m j lt (omega (arith, c.requires.short)))) done.grows,
      λ i h. ⊎_elim
          (λ e. rw e (handed_moved sys.blocks (constraint sys j) pair.variable pair.object _ _ _ _ before.more (λ v o t. t) (rw is at done.ends)))
          (λ ne. handed_moved sys.blocks (constraint sys i) pair.variable pair.object _ _ _ _ (λ v o t. t) done.grows.more (c.loop-word.invariant.1 i (omega arith)))
          (cases_eq i j),
    )

pub returns : goal.returns
returns g c =
    record {
      grows = c.loop-word.invariant.0;
      ends = λ j lt. c.loop-word.invariant.1 j (omega (arith, lt, length-take c.args.n c.words.result.now, ap length c.words.ensures.value, c.requires.short, c.loop-word-test.false));
    }
