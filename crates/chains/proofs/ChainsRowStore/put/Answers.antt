use Rattle.std.proofs.Common.{◌≡◌, ◌<◌, false, sym, ◌∙◌, arith}
use Rattle.std.proofs.lemmas.Bool.{leb-false}
use Rattle.std.proofs.lemmas.Bool.Decides.{nat_tests}
use Rattle.chains.specs.Cells.{chain_pairs, chain_room}
use Rattle.chains.proofs.Chained.{is_sound, chain_within}
use Rattle.chains.proofs.ChainsRowStore.put.Goals as goal

pub returns-clause-does : goal.returns-clause-does
returns-clause-does c =
    let s = c.args.self.now in
    let v : c.in_ok-row.row ≡ c.args.v = grind (arith, nat_tests) in
    let o : c.in_ok-object.object ≡ c.args.o = grind (arith, nat_tests) in
    let v_in : c.args.v < 256 = grind (arith, nat_tests) in
    let o_in : c.args.o < 256 = grind (arith, nat_tests) in
    let new : chain_pairs s.cells.items s.heads c.args.v c.args.o ≡ false = rw (← v, ← o) (sym c.if-holds.ensures) in
    let free = leb-false (chain_room s.cells.items) s.used (sym c.if-is_full.ensures) in
    (new, c.add.ensures.pairs ∙ rw (v, o), (v_in, o_in), omega (arith, free, (is_sound s.sound).counted))

pub returns-clause-within : goal.returns-clause-within
returns-clause-within c =
    let s = c.add.new.self in chain_within s.cells.items s.heads s.used (is_sound s.sound)
