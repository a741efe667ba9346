use Rattle.std.proofs.Common.{◌≡◌, replicate, ap, ◌∙◌, rules}
use Rattle.std.proofs.lemmas.List.{length-take-le}
use Rattle.bit_rows.specs.Bits.{cleared}
use Rattle.bit_rows.proofs.clear.Goals as goal

pub returns : goal.returns
unfolding cleared
returns c =
    let filled : c.fill.new.self ≡ replicate 2048 0 = c.fill.ensures.after (λ y e. search rules) ∙ ap (λ n. replicate n 0) (length-take-le 2048 c.args.words.now c.requires) in
    rw filled
