use Rattle.std.proofs.Common.{◌+◌, ◌%◌, ◌<◌, Some, None, length, get_or, set, sym, refl, subst, arith}
use mathlib.Core.Path.{subst₃}
use Rattle.std.proofs.lemmas.Nat.{mod_below}
use Rattle.numbering.specs.Keys.{Latest, Entry}
use Rattle.numbering.proofs.Chains.{Progress, headed_none, progress_found, progress_fresh}
use Rattle.numbering.proofs.number.Goals as goal
use Rattle.numbering.proofs.number.Goals.{in-Some, in-None}

pub loop-i-init : goal.loop-i-init
loop-i-init g c =
    let same = g.B.KeyBank.same c.args.bank.now in
    let hash = g.B.KeyBank.hashed c.args.bank.now in
    record {
      buckets = refl;
      headed = headed_none same hash;
      linked = λ r h fresh. absurd (omega arith);
      numbered = λ j h. absurd (omega arith);
      rest = λ j h. refl;
    }

pub lookup-requires-clause-headed : goal.lookup-requires-clause-headed
lookup-requires-clause-headed g c =
    let bank = c.args.bank.now in
    let hash = g.B.KeyBank.hashed bank in
    let i = c.loop-i.i in
    let b = hash i % 256 in
    subst (λ h. Latest (Entry (g.B.KeyBank.same bank) hash b) i (get_or c.loop-i.heads (h % 256) None))
    (sym c.hash.ensures) (c.loop-i.invariant.headed b (mod_below (hash i) 256 (omega arith)))

pub loop-i-preserved : goal.loop-i-preserved
loop-i-preserved g c =
    let bank = c.args.bank.now in
    let same = g.B.KeyBank.same bank in
    let hash = g.B.KeyBank.hashed bank in
    let n = g.B.KeyBank.count bank in
    let eq = g.B.KeyBank.equivalence bank in
    let P = Progress same hash c.args.first.now in
    let i = c.loop-i.i in
    let hi : i < n = omega arith in
    let long : i < length c.loop-i.first = omega arith in
    let room : i < length c.loop-i.links = omega arith in
    elim c.match-lookup.branch [
      | in-Some w ↦
          let found = w.in-Some.ensures in
          subst₃ (λ f h l. P f h l (i + 1)) (sym w.first-is) (sym w.heads-is) (sym w.links-is)
          (progress_found same hash n eq _ _ _ _ i c.loop-i.invariant hi long room _ found.0 found.1 found.2)
      | in-None w ↦
          let heads = c.loop-i.heads in
          let links = c.loop-i.links in
          subst₃ (λ f h l. P f h l (i + 1)) (sym w.first-is) (sym w.heads-is) (sym w.links-is)
          (subst (λ k. P (set c.loop-i.first i i) (set heads (k % 256) (Some i)) (set links i (get_or heads (k % 256) None)) (i + 1))
          (sym c.hash.ensures)
          (progress_fresh same hash n eq _ _ _ _ i c.loop-i.invariant hi long room (g.B.KeyBank.alike bank) w.in-None.ensures))
    ]
