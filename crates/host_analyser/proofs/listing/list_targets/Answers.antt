use Rattle.std.proofs.Common.{◌≡◌, ◌<◌, ◌≤◌, List, length, get_or, take, sym, refl, ap, ◌∙◌, arith, rules}
use Rattle.std.specs.Iterator.Adapters.{zip_first, zip_second}
use Rattle.std.specs.Slice.Iter.{iter_rest}
use Rattle.std.proofs.lemmas.List.{length-map, length_push, length-take, get_or-take}
use Rattle.std.proofs.lemmas.Slice.Zip.{zip_turn, zip_end}
use Rattle.constraints.specs.Least.{least}
use Rattle.declarations.specs.Declarations.{Entry}
use Rattle.books.specs.Tables.{blocks}
use Rattle.units.specs.Listing.{overlaid}
use Rattle.books.specs.Targets.{targets}
use Rattle.standing.specs.Lists.{list_in, owners_in}
use Rattle.standing.specs.States.{units_of, owned_name, name_in_entry}
use Rattle.host_analyser.specs.Objects.{AnswersFor}
use Rattle.host_analyser.specs.Listing.{Tabled}
use Rattle.host_analyser.proofs.Lines.{turn_lines, lines_done, targets_left, blocks_length, few_entries, start_none}
use Rattle.host_analyser.proofs.listing.list_targets.Goals as goal

pub loop-size-init : goal.loop-size-init
loop-size-init g c = (
  omega arith,
  refl,
  λ es tabled ready.
      let row = least (g.E.Engine.meaning c.args.engine.now).system c.args.v in (
        start_none (blocks es),
        ap (overlaid c.args.out.now 0) (sym (targets_left es row)),
        omega (arith, ap length (targets_left es row)),
      ),
)

pub loop-size-preserved : goal.loop-size-preserved
loop-size-preserved g c =
    let ks = take c.min-count.result c.blocks-3.result.now in
    let first : iter_rest (zip_first c.into_iter-size-iterator.result) ≡ ks = search rules in
    let second : iter_rest (zip_second c.into_iter-size-iterator.result) ≡ c.owners.result.now = search rules in
    let turn = zip_turn ks c.owners.result.now c.loop-size.yielded c.into_iter-size-iterator.result c.loop-size.size-iterator c.next.new.self c.next.result first second
    c.loop-size.yielded_by (c.in-Some.size, c.in-Some.owner) c.in-Some.is c.next.ensures.steps in
    let inv = c.loop-size.invariant in
    let i = length c.loop-size.yielded in
    let m = g.E.Engine.meaning c.args.engine.now in
    let list = list_in c.args.list.now in
    let owners = owners_in c.args.list.now in
    let units = units_of c.args.units.now in
    let d = c.in-Some.owner.now in
    let long = length-take c.min-count.result c.blocks-3.result.now in
    let counted : i < c.min-count.result = omega (arith, turn.0, long) in
    let inside : i < length list.blocks = omega (arith, turn.0, long, ap length c.blocks-3.ensures) in
    let size_is : c.in-Some.size.now ≡ get_or list.blocks i 0 =
    turn.2 0 ∙ get_or-take c.min-count.result c.blocks-3.result.now i 0 counted ∙ ap (λ bs. get_or bs i 0) c.blocks-3.ensures in
    let name_is : c.name_at.result.now ≡ owned_name units (get_or owners i d) =
    c.name_at.ensures ∙ ap (owned_name units) (turn.3 d ∙ ap (λ os. get_or os i d) c.owners.ensures) in
    let put = c.put_target-n.ensures in
    rw (length_push c.loop-size.yielded (c.in-Some.size, c.in-Some.owner)) (
      omega (arith, inv.0, put.bound),
      put.stays ∙ inv.1,
      λ es tabled ready.
          turn_lines m c.args.v units list owners es tabled ready i inside d (g.E.Engine.meaning c.loop-size.engine) inv.1
          c.loop-size.out c.args.out.now c.name_at.result.now c.loop-size.n c.loop-size.first c.in-Some.size.now size_is name_is (inv.2 es tabled ready)
          c.put_target-n.new.out c.put_target-n.result c.saturating_add-first.result put.written put.count
          (λ few. omega (arith, c.saturating_add-first.ensures, c.from.ensures)),
    )

pub returns : goal.returns
returns g c =
    let ks = take c.min-count.result c.blocks-3.result.now in
    let first : iter_rest (zip_first c.into_iter-size-iterator.result) ≡ ks = search rules in
    let second : iter_rest (zip_second c.into_iter-size-iterator.result) ≡ c.owners.result.now = search rules in
    let end = zip_end ks c.owners.result.now c.loop-size.yielded c.into_iter-size-iterator.result c.loop-size.size-iterator c.next.new.self c.next.result first second
    c.loop-size.yielded_by c.in-None.is c.next.ensures.steps in
    let inv = c.loop-size.invariant in
    let i = length c.loop-size.yielded in
    let m = g.E.Engine.meaning c.args.engine.now in
    let row = least m.system c.args.v in
    let list = list_in c.args.list.now in
    let owners = owners_in c.args.list.now in
    let units = units_of c.args.units.now in
    let done : (es : List Entry) → Tabled es m.system units list owners → AnswersFor m c.args.v
    → (c.loop-size.out ≡ overlaid c.args.out.now 0 (targets es row)) × (c.loop-size.n ≡ length (targets es row)) = λ es tabled ready.
    let (_, written, counted) = inv.2 es tabled ready in
    let owned_long = sym (length-map owners (owned_name units)) ∙ ap length tabled.owned ∙ length-map es name_in_entry in
    let far : length es ≤ i =
    omega (arith, end, length-take c.min-count.result c.blocks-3.result.now, c.min-count.ensures, ap length c.blocks-2.ensures, ap length c.blocks-3.ensures, ap length c.owners.ensures, ap length tabled.laid, blocks_length es, owned_long, few_entries es tabled.few) in
    lines_done row es i c.loop-size.first c.loop-size.n c.loop-size.out c.args.out.now far written counted in
    record {
      written = λ es tabled ready. (done es tabled ready).0;
      count = λ es tabled ready. (done es tabled ready).1;
      stays = inv.1;
    }
