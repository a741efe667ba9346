use Rattle.std.proofs.Common.{ℕ, rules, tests, arith}
use Rattle.std.proofs.lemmas.Iterator.{first_from_Range}
use Rattle.std.proofs.lemmas.List.{get_or_read}
use Rattle.layers.specs.Classes.{Peer}
use Rattle.layers.proofs.Peers.{lowest_below}
use Rattle.layers.proofs.represent.Classes.lowest.Goals as goal

pub returns : goal.returns
returns c =
    let s = c.args.self.now in
    let P : ℕ → Type 0 = Peer s.is_open s.class c.args.is_open c.args.class in
    lowest_below s.count P c.find.result
    (first_from_Range _ _ _ _ P (λ v. P v → ⊥) c.find.ensures.ran
    (λ x q k. grind (arith, tests, get_or_read))
    (λ x q k. (search rules, grind (arith, tests, get_or_read))))
