use Rattle.std.proofs.Common.{Option, ap, ◌∙◌}
use Rattle.grammar.specs.Grammar.{Place}
use Rattle.grammar.specs.Meanings.{place_in}
use Rattle.books.specs.Books.{standing, table}
use Rattle.books.specs.Replies.{known_cell, place_among}
use Rattle.standing.specs.States.{units_of, cell_number}
use Rattle.standing.proofs.Sounds.{is_sound}
use Rattle.standing.proofs.Answering.{places_of, place_number}
use Rattle.standing.proofs.standing_units.StandingUnits.place.Goals as goal

pub returns-in_err-place : goal.returns-in_err-place
unfolding place_among
returns-in_err-place c =
    let units = units_of c.args.self.now in
    record {
      found = λ laid. c.from_residual.ensures ∙ ap (λ (o : Option Place). cell_number units (known_cell (standing units) o)) c.in_err-place.ensures.is;
      book = (is_sound c.args.self.now.sound).book;
    }

pub returns : goal.returns
unfolding place_among
returns c =
    let units = units_of c.args.self.now in
    record {
      found = λ laid. c.place_variable.ensures (table (standing units)) (places_of c.args.self.now laid) ∙ place_number units (place_in c.args.text.now c.in_ok-place.place)
          ∙ ap (λ (o : Option Place). cell_number units (known_cell (standing units) o)) c.in_ok-place.ensures.is;
      book = (is_sound c.args.self.now.sound).book;
    }
