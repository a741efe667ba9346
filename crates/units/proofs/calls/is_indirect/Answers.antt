use Rattle.std.proofs.Common.{◌∙◌}
use Rattle.grammar.specs.Meanings.{item_in, target_in}
use Rattle.units.specs.Statements.{pointers_of}
use Rattle.units.proofs.Passes.{is_some_pointer, is_some_target}
use Rattle.units.proofs.calls.is_indirect.Goals as goal

pub returns : goal.returns
returns c text =
    c.is_some.ensures ∙ is_some_target text c.pointer_of.result
    ∙ is_some_pointer (target_in text c.pointer_of.result) (pointers_of (item_in text c.args.item)) (c.pointer_of.ensures text)
