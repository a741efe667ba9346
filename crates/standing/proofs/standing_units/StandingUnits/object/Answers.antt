use Rattle.std.proofs.Common.{ℕ, ◌+◌, cond, ltb, List, Some, None, Option, ap, ◌∙◌}
use Rattle.lexemes.specs.Terminals.{Name}
use Rattle.lexemes.specs.Texts.{name_in_text}
use Rattle.declarations.specs.Declarations.{size_of}
use Rattle.books.specs.Tables.{first_of}
use Rattle.books.specs.Books.{standing, table}
use Rattle.books.specs.Replies.{known_name, name_in}
use Rattle.standing.specs.States.{units_of, object_number}
use Rattle.standing.proofs.Sounds.{is_sound}
use Rattle.standing.proofs.Answering.{places_of, name_number}
use Rattle.standing.proofs.standing_units.StandingUnits.object.Goals as goal

pub returns-in_err-name : goal.returns-in_err-name
unfolding name_in
returns-in_err-name c =
    let units = units_of c.args.self.now in
    record {
      found = λ laid. c.from_residual.ensures ∙ ap (λ (o : Option Name). object_number units (known_name (standing units) o)) c.in_err-name.ensures;
      book = (is_sound c.args.self.now.sound).book;
    }

pub returns : goal.returns
unfolding name_in
returns c =
    let units = units_of c.args.self.now in
    let es = table (standing units) in
    record {
      found = λ laid. c.cell_variable.ensures es (places_of c.args.self.now laid)
          ∙ ap (λ (n : List ℕ). cond (ltb 0 (size_of es n)) (Some (first_of es n + 0)) None) c.bytes_of.ensures ∙ name_number units (name_in_text c.args.text.now c.in_ok-name.name)
          ∙ ap (λ (o : Option Name). object_number units (known_name (standing units) o)) c.in_ok-name.ensures;
      book = (is_sound c.args.self.now.sound).book;
    }
