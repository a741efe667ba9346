use Rattle.std.proofs.Common.{Err, sym, ap, ◌∙◌, subst}
use Rattle.std.proofs.lemmas.Result.{err_from_is_err_and}
use Rattle.constraints.specs.Constraint.{Valid}
use Rattle.books.proofs.Lists.{list_valid}
use Rattle.standing.specs.States.{units_of}
use Rattle.standing.specs.Lists.{list_in, listed_in}
use Rattle.host_analyser.specs.Books.{texts_of}
use Rattle.host_analyser.specs.Replies.{SettleResult}
use Rattle.host_analyser.specs.States.{book_of}
use Rattle.host_analyser.proofs.Settled.{no_room, says_no_room}
use Rattle.host_analyser.proofs.analyser.Analyser.settle.Goals as goal

pub settle_list-requires : goal.settle_list-requires
settle_list-requires g c = subst Valid (sym c.lay_out.ensures.lists) (list_valid (texts_of (book_of c.args.self.now)) c.lay_out.ensures.book)

pub returns-in_err-settle_list-clause-replies : goal.returns-in_err-settle_list-clause-replies
returns-in_err-settle_list-clause-replies g c =
    let a = c.args.self.now in
    let b = book_of a in
    let rule = (g.E.Engine.meaning a.engine).rule in
    let f = c.in_err-settle_list.field-0.0 in
    let p = err_from_is_err_and c.from_residual.result c.from_residual.ensures.1 in
    let failed = c.in_err-settle_list.ensures.settles in
    let refused =
    no_room rule b c.lay_out.ensures.book (g.E.Engine.roomy a.engine) (list_in c.lay_out.new.list) c.lay_out.ensures.lists
    (units_of c.lay_out.new.self) c.lay_out.ensures.same (listed_in c.lay_out.new.list) c.lay_out.ensures.origins failed.0 failed.2 failed.3 f failed.4 in
    subst (SettleResult rule b) (sym (p.1 ∙ ap Err p.2)) (says_no_room rule b f c.if-self.false refused.0 refused.1)
