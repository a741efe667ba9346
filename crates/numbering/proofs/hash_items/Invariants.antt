use Rattle.std.proofs.Common.{◌≡◌, ℕ, List, take}
use Rattle.std.specs.List.{AllZip}
use Rattle.numbering.specs.Lists.{hash_of}
use Rattle.numbering.proofs.hash_items.Given as goal

abbrev pub invariant-loop-item : goal.invariant-loop-item
invariant-loop-item g l =
    (numbers : List ℕ) × (AllZip (g.T.Into.converts) (take l.item-index l.items) numbers) × (l.h ≡ hash_of numbers)
