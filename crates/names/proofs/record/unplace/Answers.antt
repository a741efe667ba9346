use Rattle.std.proofs.Common.{◌≡◌, ◌∷◌, ◌++◌, [], map, get_or, sym, ap, ap₂, ◌∙◌, arith}
use Rattle.std.proofs.lemmas.List.{take_all, take_more_set, map_more, get_or-set_other}
use Rattle.names.specs.Notes.{unplaced}
use Rattle.names.proofs.record.unplace.Goals as goal

pub loop-known-preserved : goal.loop-known-preserved
loop-known-preserved c =
    let rs = c.args.records.now in
    let i = c.loop-known.known-index in
    let items = c.loop-known.known-items in
    let d = c.known-item.result in
    let new = c.place.new.self in
    let kept = c.loop-known.invariant.rest i d (omega arith) in
    let changed : new ≡ unplaced (get_or rs i d) =
    ap₂ (λ name note. record { name = name; note = note }) c.place.ensures.named c.place.ensures.noted ∙ ap unplaced kept in
    record {
      done =
          take_more_set items i new (omega (arith, c.loop-known.auto.known-items, c.loop-known-test.true))
          ∙ ap₂ (λ done r. done ++ r ∷ []) c.loop-known.invariant.done changed
          ∙ sym (map_more unplaced rs i d c.loop-known-test.true);
      rest = λ j e le. get_or-set_other items i j new e (omega arith) ∙ c.loop-known.invariant.rest j e (omega arith);
    }

pub returns : goal.returns
returns c =
    sym (take_all c.loop-known.known-index c.loop-known.known-items (omega (arith, c.loop-known.auto.known-items, c.loop-known-test.false)))
    ∙ c.loop-known.invariant.done ∙ ap (map unplaced) (take_all c.loop-known.known-index c.args.records.now c.loop-known-test.false)
