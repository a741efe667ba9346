use Rattle.std.proofs.Common.{◌≡◌, ◌+◌, ◌<◌, false, refl, sym, ap, ◌∙◌, subst, arith}
use Rattle.graphs.specs.Matrix.{bit_at}
use Rattle.constraints.specs.Constraint.{left_of}
use Rattle.flows.specs.Names.{NamesBelow}
use Rattle.hvn.specs.Columns.{member, element_number}
use Rattle.hvn.specs.declared.sets.Sets.{Sets}
use Rattle.hvn.proofs.Rowing.{brought_none, brought_more, column_put, column_none, no_column, no_member, element_small}
use Rattle.hvn.proofs.sets.Sets.fill.Goals as goal
use Rattle.hvn.proofs.sets.Sets.fill.Goals.{in-Some, in_default}

pub loop-word-init : goal.loop-word-init
loop-word-init c = record {
  row = λ d h. brought_none c.args.words.now c.args.flow.now.reach.words c.args.number.now c.args.v d (bit_at 88 c.args.self.now.rows.words c.args.k d);
  others = λ y d h ne. refl;
}

pub loop-word-preserved-then-not-is_member : goal.loop-word-preserved-then-not-is_member
loop-word-preserved-then-not-is_member c =
    let reach = c.args.flow.now.reach.words in
    let number = c.args.number.now in
    let v = c.args.v in
    let i = c.loop-word.word-index in
    let rows = c.loop-word.self.rows.words in
    let so_far = c.loop-word.invariant in
    let outside : member reach v (left_of c.decode.result) ≡ false =
    ap (member reach v) (sym c.left_of.ensures) ∙ sym c.is_member.ensures ∙ c.if-not-is_member.true in
    let none = sym (no_member reach number v c.decode.result outside) ∙ ap (element_number reach number v) c.decode.ensures.value in
    record {
      row = λ d h. brought_more c.args.words.now reach number v i d 0 _ _ _ (so_far.row d h) (column_none d (bit_at 88 rows c.args.k d)) none;
      others = so_far.others;
    }

pub put-requires : goal.put-requires
put-requires c =
    let d = c.decode-in-loop-word in
    let names = subst (NamesBelow 256) (sym d.ensures.value) (c.requires.words c.loop-word.word-index c.loop-word-test.true) in
    let small = element_small c.args.flow.now.reach.words c.args.number.now c.args.v d.result names c.requires.small in
    let row : c.args.k < 256 = c.requires.row in
    let column : c.in-Some.column < 2816 = omega (arith, small, c.in-Some.ensures) in
    (omega arith, (omega (arith, row), column))

pub loop-word-preserved : goal.loop-word-preserved
loop-word-preserved c =
    let words = c.args.words.now in
    let reach = c.args.flow.now.reach.words in
    let number = c.args.number.now in
    let v = c.args.v in
    let k = c.args.k in
    let i = c.loop-word.word-index in
    let rows = c.loop-word.self.rows.words in
    let so_far = c.loop-word.invariant in
    let told = ap (element_number reach number v) c.decode-in-loop-word.ensures.value in
    elim c.match-element_of.branch [
      | in-Some w ↦ record {
        row = λ d h. ap (λ (s : Sets). bit_at 88 s.rows.words k d) w.self-is
            ∙ brought_more words reach number v i d (w.in-Some.column + 1) _ _ _ (so_far.row d h)
            (column_put rows w.put.new.self.words k w.in-Some.column d w.put.ensures h) (w.in-Some.ensures ∙ told);
        others = λ y d h ne. ap (λ (s : Sets). bit_at 88 s.rows.words y d) w.self-is ∙ w.put.ensures.row y d h ne ∙ so_far.others y d h ne;
      }
      | in_default w ↦ record {
        row = λ d h. ap (λ (s : Sets). bit_at 88 s.rows.words k d) w.self-is
            ∙ brought_more words reach number v i d 0 _ _ _ (so_far.row d h) (column_none d (bit_at 88 rows k d))
            (no_column c.element_of.result w.in_default.not-Some ∙ c.element_of.ensures ∙ told);
        others = λ y d h ne. ap (λ (s : Sets). bit_at 88 s.rows.words y d) w.self-is ∙ so_far.others y d h ne;
      }
    ]
