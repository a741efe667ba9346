use Rattle.std.proofs.Common.{ℕ, ◌+◌, cond, ltb, List, Some, None, Option, ap, ◌∙◌}
use Rattle.lexemes.specs.Texts.{name_in_text}
use Rattle.grammar.specs.Grammar.{Place}
use Rattle.declarations.specs.Declarations.{size_of}
use Rattle.books.specs.Tables.{first_of}
use Rattle.books.specs.Targets.{cell_if, pointer}
use Rattle.standing.specs.Firsts.{cell_if_within}
use Rattle.standing.proofs.lookup.pointer_variable.Goals as goal

abbrev name : goal.After-cell_variable → List ℕ
name c = (name_in_text c.args.text.now c.in_ok-place.place.base).bytes

pub returns : goal.returns
unfolding pointer
returns c = λ es places.
    c.cell_variable.ensures es places
    ∙ ap (λ (n : List ℕ). cond (ltb c.slot_number.result (size_of es n)) (Some (first_of es n + c.slot_number.result)) None) c.bytes_of.ensures
    ∙ ap (λ (k : ℕ). cond (ltb k (size_of es (name c))) (Some (first_of es (name c) + k)) None) c.slot_number.ensures.is
    ∙ ap (λ (o : Option Place). cell_if_within es (cell_if o)) c.in_ok-place.ensures

pub returns-in_err-place : goal.returns-in_err-place
unfolding pointer
returns-in_err-place c = λ es places. c.from_residual.ensures ∙ ap (λ (o : Option Place). cell_if_within es (cell_if o)) c.in_err-place.ensures
