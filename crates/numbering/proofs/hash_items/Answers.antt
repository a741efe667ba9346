use Rattle.std.proofs.Common.{[], ◌∷◌, ◌++◌, sym, ap, ◌∙◌}
use Rattle.std.proofs.lemmas.List.Sums.{fold_push}
use Rattle.numbering.specs.Lists.{mix}
use Rattle.numbering.proofs.Lists.{all_zip_more}
use Rattle.numbering.proofs.hash_items.Goals as goal

pub loop-item-preserved : goal.loop-item-preserved
loop-item-preserved g c =
    let so_far = c.loop-item.invariant in
    let n = c.into-number.result in (
      so_far.0 ++ n ∷ [],
      all_zip_more g.T.Into.converts c.args.items.now so_far.0 c.loop-item.item-index c.item-item.result n
          c.loop-item-test.true c.item-item.is so_far.1 c.into-number.ensures,
      ap (λ h. mix h n) so_far.2 ∙ sym (fold_push mix 0 so_far.0 n),
    )
