use Rattle.std.proofs.Common.{sym, ap, ◌∙◌}
use Rattle.lexemes.specs.Terminals.{Name}
use Rattle.declarations.proofs.Checking.{key_at}
use Rattle.declarations.proofs.check.Names.name.Goals as goal

pub returns : goal.returns
returns c =
    let text = c.args.self.now.text.now in
    c.bytes_of.ensures ∙ ap (λ (n : Name). n.bytes) (c.name.ensures text) ∙ sym (key_at text c.args.self.now.mentions.now c.args.i _ c.requires)
