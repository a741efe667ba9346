use Rattle.std.proofs.Common.{◌≡◌, Some, Err, sym, ap, ◌∙◌}
use Rattle.std.specs.Result.{result_ok}
use Rattle.std.proofs.lemmas.Result.{err_from_is_err_and}
use Rattle.host_analyser.specs.declared.refusal.Refusal.TheVariants.{NoPlace, Unknown}
use Rattle.books.specs.Replies.{place_among, name_in}
use Rattle.standing.specs.States.{cell_number, object_number}
use Rattle.host_analyser.specs.Books.{texts_of}
use Rattle.host_analyser.specs.States.{book_of}
use Rattle.host_analyser.proofs.Located.{refused_by, points_placeless, points_nameless, points_answered}
use Rattle.host_analyser.proofs.Right.{right_of}
use Rattle.host_analyser.proofs.analyser.Analyser.points.Goals as goal

pub returns-in_err-v-clause-replies : goal.returns-in_err-v-clause-replies
returns-in_err-v-clause-replies g c =
    let a = c.args.self.now in
    let right = right_of (a.in_step c.if-not-self.false) in
    let p = err_from_is_err_and c.from_residual.result c.from_residual.ensures.1 in
    let none = refused_by c.place.result NoPlace c.in_err-v.field-0.0 (sym c.ok_or.ensures.value ∙ c.in_err-v.was) in
    p.1 ∙ ap Err (p.2 ∙ none.1) ∙ points_placeless (book_of a) c.if-not-self.false c.args.place.now c.args.name.now (sym none.0 ∙ c.place.ensures.found right.laid)

pub returns-in_err-o-clause-replies : goal.returns-in_err-o-clause-replies
returns-in_err-o-clause-replies g c =
    let a = c.args.self.now in
    let right = right_of (a.in_step c.if-not-self.false) in
    let p = err_from_is_err_and c.from_residual-in_err-o.result c.from_residual-in_err-o.ensures.1 in
    let at = sym (c.ok_or.ensures.ok_part ∙ ap result_ok c.in_ok-v.was) ∙ c.place.ensures.found right.laid in
    let none = refused_by c.object.result Unknown c.in_err-o.field-0.0 (sym c.ok_or-2.ensures.value ∙ c.in_err-o.was) in
    p.1 ∙ ap Err (p.2 ∙ none.1) ∙ points_nameless (book_of a) c.if-not-self.false c.args.place.now c.args.name.now _ at (sym none.0 ∙ c.object.ensures.found right.laid)

pub returns-clause-replies : goal.returns-clause-replies
returns-clause-replies g c =
    let a = c.args.self.now in
    let b = book_of a in
    let right = right_of (a.in_step c.if-not-self.false) in
    let at : Some c.in_ok-v.v ≡ cell_number b.units (place_among (texts_of b) c.args.place.now) = sym (c.ok_or.ensures.ok_part ∙ ap result_ok c.in_ok-v.was) ∙ c.place.ensures.found right.laid in
    let object : Some c.in_ok-o.o ≡ object_number b.units (name_in (texts_of b) c.args.name.now) = sym (c.ok_or-2.ensures.ok_part ∙ ap result_ok c.in_ok-o.was) ∙ c.object.ensures.found right.laid in
    points_answered b (g.E.Engine.meaning a.engine) right.holds right.settled c.if-not-self.false
    c.args.place.now c.args.name.now _ _ at object c.has_object.result c.has_object.ensures.answer
