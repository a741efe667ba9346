use Rattle.std.proofs.Common.{◌≡◌, ◌+◌, ap, ◌∙◌, inl, inr, arith}
use Rattle.std.specs.Vec.{with_items}
use Rattle.std.proofs.lemmas.List.{with_items_is}
use Rattle.constraints.specs.Rows.{with_pair}
use Rattle.chains.specs.Cells.{chain_pairs, chain_room, chain_spare, linked_in, Sound}
use Rattle.chains.proofs.Chained.{is_sound}
use Rattle.chains.proofs.Inserted.{Headed, added_in}
use Rattle.chains.proofs.Chains.add.Goals as goal
use Rattle.chains.proofs.Chains.add.Goals.{then-is_none, else-is_none}

-- what is left is a sound store with one pair more
inserted : (c : goal.Joined-is_none)
    → let s = c.args.self.now in let ds = (with_items s.cells c.link_in.new.cells).items in let gs = c.if-is_none.self.1.1.0 in
    Sound ds gs (s.used + 1) × (chain_pairs ds gs ≡ with_pair (chain_pairs s.cells.items s.heads) c.args.v c.args.o)
    × (chain_room ds ≡ chain_room s.cells.items) × (chain_spare ds ≡ chain_spare s.cells.items)
inserted c =
    let s = c.args.self.now in
    let place = c.place_of-place.result in
    let placed = rw c.from.ensures at c.place_of-place.ensures in
    let written : (with_items s.cells c.link_in.new.cells).items ≡ linked_in s.cells.items place.before place.after s.used c.args.o =
    with_items_is s.cells c.link_in.new.cells (omega (arith, c.link_in.auto.cells, c.deref_mut.ensures.len)) ∙ c.link_in.ensures
    ∙ rw (c.deref_mut.ensures.value, c.from-2.ensures) in
    let headed : Headed s.cells.items s.heads s.used c.args.v c.args.o place.before place.after (is_sound s.sound) (omega arith) (omega arith) placed c.requires.new c.requires.free c.if-is_none.self.1.1.0 =
    elim c.if-is_none.branch [
      | then-is_none w ↦ inl (w.if-is_none.ensures, ap (λ t. t.1.1.0) w.self-is ∙ rw w.from-then-is_none.ensures)
      | else-is_none w ↦ inr (w.if-is_none.ensures, ap (λ t. t.1.1.0) w.self-is)
    ] in
    added_in s.cells.items s.heads s.used c.args.v c.args.o place.before place.after (is_sound s.sound) (omega arith) (omega arith) placed c.requires.new c.requires.free _ _ written headed

pub invariant_of-self : goal.invariant_of-self
invariant_of-self c = record { sound = ∣ (inserted c).0 ∣₁ }

pub returns : goal.returns
returns c =
    let done = inserted c.before in
    record { pairs = done.1; room = done.2; rest = done.3 }
