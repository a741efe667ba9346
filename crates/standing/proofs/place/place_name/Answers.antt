use Rattle.std.proofs.Common.{sym, refl, ap, ◌∙◌, arith}
use Rattle.std.proofs.lemmas.Bool.{false≢true}
use Rattle.std.specs.Option.{is_some}
use Rattle.names.specs.Held.{notes}
use Rattle.names.specs.Tables.{variable_at}
use Rattle.standing.specs.Knowledge.{size_in}
use Rattle.standing.specs.Firsts.{first_in}
use Rattle.standing.proofs.Refusing.{none_there}
use Rattle.standing.proofs.Placing.{put_at, same_placed, lay_new, lay_old}
use Rattle.standing.proofs.place.place_name.Goals as goal

pub returns-then-is_none : goal.returns-then-is_none
returns-then-is_none c =
    let known = notes c.args.names.now in
    let name = c.args.name.now in
    let l = c.args.list.now in
    let is = c.place.ensures.after ∙ ap (λ v. put_at (variable_at v) known name) c.variables.ensures in
    record {
      same = same_placed (variable_at l.variables) known (notes c.place.new.self) name is;
      laid = λ units es k fits laid.
          lay_new units es known (notes c.place.new.self) l c.push_block.new.self (record { name = name; slots = k }) c.args.owner c.saturating_add.result fits laid
          (sym (ap first_in c.in-Some.ensures) ∙ none_there c.in-Some.note.first c.if-is_none.ensures)
          (omega (arith, c.saturating_add.ensures, fits.size, fits.small, ap size_in c.in-Some.ensures)) is c.push_block.ensures;
    }

pub returns-else-is_none : goal.returns-else-is_none
returns-else-is_none c =
    let known = notes c.args.names.now in
    record {
      same = record { sizes = λ n. refl; counts = λ n. refl; defined = λ n. refl };
      laid = λ units es k fits laid.
          lay_old units es known known c.args.list.now c.args.list.now (record { name = c.args.name.now; slots = k }) c.args.owner 0 fits laid
          (λ none. false≢true (sym (ap is_some (ap first_in c.in-Some.ensures ∙ none)) ∙ c.if-is_none.ensures));
    }
