use Rattle.std.proofs.Common.{ℕ, ◌+◌, ap, ◌∙◌}
use Rattle.declarations.proofs.Sizes.{size_declared}
use Rattle.declarations.proofs.mention.Mention.size_after.Goals as goal

pub returns-in-Declares : goal.returns-in-Declares
returns-in-Declares c text es is right = ap (λ (n : ℕ). n + 1) c.from.ensures ∙ size_declared text _ _ _ c.in-Declares.slots es c.in-Declares.is right
