use Rattle.std.proofs.Common.{ℕ, Option, unwrap_or, sym, ap, ◌∙◌}
use Rattle.units.proofs.Packed.{fits_packed}
use Rattle.units.proofs.words.encoded.Goals as goal

pub returns : goal.returns
returns c = c.unwrap_or.ensures ∙ ap (λ (o : Option ℕ). unwrap_or o 0) (c.encode.ensures.value ∙ sym (fits_packed c.args.constraint c.requires))
