use Rattle.std.proofs.Common.{◌≡◌, ◌≤◌, length, ap, ◌∙◌, arith}
use Rattle.std.specs.Vec.{with_items}
use Rattle.std.proofs.lemmas.List.{with_items_is}
use Rattle.std.proofs.lemmas.Bool.{le-leb}
use Rattle.bit_rows.specs.Bits.{cleared, bit_pairs, bit_spare}
use Rattle.bit_rows.proofs.Words.{no_bits, cleared_length, cleared_rest}
use Rattle.bit_rows.proofs.BitRowsRowStore.wipe.Goals as goal

pub returns-then-len-ge-WORDS-clause-empties : goal.returns-then-len-ge-WORDS-clause-empties
returns-then-len-ge-WORDS-clause-empties c =
    let vec = c.args.self.now.words in
    let written : (with_items vec c.clear.new.words).items ≡ cleared 2048 vec.items =
    with_items_is vec c.clear.new.words (omega (arith, c.clear.auto.words, c.deref_mut.ensures.len)) ∙ c.clear.ensures
    ∙ ap (cleared 2048) c.deref_mut.ensures.value in
    ap bit_pairs written ∙ no_bits vec.items

pub returns-then-len-ge-WORDS-clause-rest : goal.returns-then-len-ge-WORDS-clause-rest
returns-then-len-ge-WORDS-clause-rest c =
    let vec = c.args.self.now.words in
    let ws = vec.items in
    let enough : 2048 ≤ length ws = omega (arith, c.if-len-ge-WORDS.true, c.len.ensures, vec.ok.0) in
    let written : (with_items vec c.clear.new.words).items ≡ cleared 2048 ws =
    with_items_is vec c.clear.new.words (omega (arith, c.clear.auto.words, c.deref_mut.ensures.len)) ∙ c.clear.ensures
    ∙ ap (cleared 2048) c.deref_mut.ensures.value in
    ap bit_spare written ∙ rw (cleared_length 2048 ws enough, le-leb 2048 (length ws) enough) (cleared_rest 2048 ws)
