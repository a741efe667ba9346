use Rattle.std.proofs.Common.{Err, ap, ◌∙◌}
use Rattle.std.proofs.lemmas.Result.{err_from_is_err_and}
use Rattle.books.specs.Books.{standing, table}
use Rattle.standing.specs.States.{units_of}
use Rattle.standing.proofs.Sounds.{is_sound}
use Rattle.standing.proofs.Answering.{places_of, pointer_refused, pointer_answer, stands_inside}
use Rattle.standing.proofs.standing_units.StandingUnits.pointer.Goals as goal

pub returns-in_err-text : goal.returns-in_err-text
returns-in_err-text c =
    let refused = c.in_err-text.ensures.refused in
    let p = err_from_is_err_and c.from_residual.result c.from_residual.ensures.1 in
    record {
      found = λ laid. p.1 ∙ ap Err p.2 ∙ pointer_refused (units_of c.args.self.now) c.args.unit c.args.index _ refused.0 refused.1;
      book = (is_sound c.args.self.now.sound).book;
    }

pub returns : goal.returns
returns c =
    let s = is_sound c.args.self.now.sound in
    let units = units_of c.args.self.now in
    let there = c.in_ok-text.ensures.stands in
    record {
      found = λ laid. c.ok_or.ensures.value
          ∙ pointer_answer units c.args.unit c.args.index (stands_inside c.args.self.now.texts c.args.unit _ s.eight there) _ there s.book c.pointer_variable.result
          (c.pointer_variable.ensures (table (standing units)) (places_of c.args.self.now laid));
      book = s.book;
    }
