use Rattle.std.proofs.Common.{◌≡◌, ◌<◌, ◌≤◌, false, length, sym, ap, ◌∙◌, arith}
use Rattle.std.specs.Vec.{with_items}
use Rattle.std.proofs.lemmas.List.{with_items_is}
use Rattle.std.proofs.lemmas.Bool.{le-leb}
use Rattle.std.proofs.lemmas.Bool.Decides.{nat_tests}
use Rattle.rows.proofs.Counts.{total_below}
use Rattle.bit_rows.specs.Bits.{bit_pairs, bit_room, bit_spare, put_bit}
use Rattle.bit_rows.proofs.Words.{with_bit, bit_rest}
use Rattle.bit_rows.proofs.BitRowsRowStore.put.Goals as goal

pub returns-clause-does : goal.returns-clause-does
returns-clause-does c =
    let vec = c.args.self.now.words in
    let ws = vec.items in
    let v = c.args.v in
    let o = c.args.o in
    let v_is : c.in_ok-row.row ≡ v = grind (arith, nat_tests) in
    let o_is : c.in_ok-object.object ≡ o = grind (arith, nat_tests) in
    let v_in : v < 256 = grind (arith, nat_tests) in
    let o_in : o < 256 = grind (arith, nat_tests) in
    let new : bit_pairs ws v o ≡ false = sym (c.if-bit_is_set.ensures ∙ rw (c.deref.ensures.value, v_is, o_is)) in
    let enough : 2048 ≤ length ws = omega (arith, c.if-len-lt-WORDS.false, c.len.ensures, vec.ok.0) in
    let room : bit_room ws ≡ 65536 = rw (le-leb 2048 (length ws) enough) in
    let written : (with_items vec c.set_bit.new.words).items ≡ put_bit ws v o =
    with_items_is vec c.set_bit.new.words (omega (arith, c.set_bit.auto.words, c.deref_mut.ensures.len)) ∙ c.set_bit.ensures
    ∙ rw (c.deref_mut.ensures.value, v_is, o_is) in
    (new, ap bit_pairs written ∙ with_bit ws v o enough v_in o_in, (v_in, o_in), omega (arith, total_below (bit_pairs ws) v o v_in o_in new))

pub returns-clause-rest : goal.returns-clause-rest
returns-clause-rest c =
    let vec = c.args.self.now.words in
    let ws = vec.items in
    let enough : 2048 ≤ length ws = omega (arith, c.if-len-lt-WORDS.false, c.len.ensures, vec.ok.0) in
    let written : (with_items vec c.set_bit.new.words).items ≡ put_bit ws c.in_ok-row.row c.in_ok-object.object =
    with_items_is vec c.set_bit.new.words (omega (arith, c.set_bit.auto.words, c.deref_mut.ensures.len)) ∙ c.set_bit.ensures
    ∙ rw c.deref_mut.ensures.value in
    ap bit_spare written ∙ bit_rest ws c.in_ok-row.row c.in_ok-object.object enough (omega arith) (omega arith)
