use Rattle.std.proofs.Common.{◌≡◌, Some, Err, sym, ap, ◌∙◌}
use Rattle.std.specs.Result.{result_ok}
use Rattle.std.proofs.lemmas.Result.{err_from_is_err_and}
use Rattle.host_analyser.specs.declared.refusal.Refusal.TheVariants.{NoPlace, Unknown}
use Rattle.books.specs.Replies.{place_among}
use Rattle.standing.specs.States.{cell_number}
use Rattle.host_analyser.specs.Books.{texts_of}
use Rattle.host_analyser.specs.States.{book_of}
use Rattle.host_analyser.proofs.Located.{refused_by, alias_placeless, alias_of_one, alias_answered}
use Rattle.host_analyser.proofs.Right.{right_of}
use Rattle.host_analyser.proofs.analyser.Analyser.alias.Goals as goal

pub returns-in_err-v-clause-replies : goal.returns-in_err-v-clause-replies
returns-in_err-v-clause-replies g c =
    let a = c.args.self.now in
    let right = right_of (a.in_step c.if-not-self.false) in
    let p = err_from_is_err_and c.from_residual.result c.from_residual.ensures.1 in
    let none = refused_by c.place.result NoPlace c.in_err-v.field-0.0 (sym c.ok_or.ensures.value ∙ c.in_err-v.was) in
    p.1 ∙ ap Err (p.2 ∙ none.1) ∙ alias_placeless (book_of a) c.if-not-self.false c.args.first.now c.args.second.now (sym none.0 ∙ c.place.ensures.found right.laid)

pub returns-in_err-w-clause-replies : goal.returns-in_err-w-clause-replies
returns-in_err-w-clause-replies g c =
    let a = c.args.self.now in
    let right = right_of (a.in_step c.if-not-self.false) in
    let p = err_from_is_err_and c.from_residual-in_err-w.result c.from_residual-in_err-w.ensures.1 in
    let at = sym (c.ok_or.ensures.ok_part ∙ ap result_ok c.in_ok-v.was) ∙ c.place.ensures.found right.laid in
    let none = refused_by c.place-2.result Unknown c.in_err-w.field-0.0 (sym c.ok_or-2.ensures.value ∙ c.in_err-w.was) in
    p.1 ∙ ap Err (p.2 ∙ none.1) ∙ alias_of_one (book_of a) c.if-not-self.false c.args.first.now c.args.second.now _ at (sym none.0 ∙ c.place-2.ensures.found right.laid)

pub returns-clause-replies : goal.returns-clause-replies
returns-clause-replies g c =
    let a = c.args.self.now in
    let b = book_of a in
    let right = right_of (a.in_step c.if-not-self.false) in
    let first : Some c.in_ok-v.v ≡ cell_number b.units (place_among (texts_of b) c.args.first.now) = sym (c.ok_or.ensures.ok_part ∙ ap result_ok c.in_ok-v.was) ∙ c.place.ensures.found right.laid in
    let second : Some c.in_ok-w.w ≡ cell_number b.units (place_among (texts_of b) c.args.second.now) = sym (c.ok_or-2.ensures.ok_part ∙ ap result_ok c.in_ok-w.was) ∙ c.place-2.ensures.found right.laid in
    alias_answered b (g.E.Engine.meaning a.engine) right.holds right.settled c.if-not-self.false
    c.args.first.now c.args.second.now _ _ first second c.share_object.result c.share_object.ensures.answer
