use Rattle.std.proofs.Common.{ℕ, ◌+◌, List, map, drop, length, get_or, sym, ap, ◌∙◌, arith}
use Rattle.std.proofs.lemmas.List.{length-map}
use Rattle.std.proofs.lemmas.Option.{slice_get-get_or}
use Rattle.grammar.specs.Meanings.{item_in}
use Rattle.units.specs.declared.listing.ListedWord.{ListedWord}
use Rattle.units.specs.Words.{word}
use Rattle.units.specs.Statements.{words_of}
use Rattle.units.specs.Listing.{tagged, overlaid}
use Rattle.units.proofs.Overlay.{lay_none, lay_more, lay_all}
use Rattle.units.proofs.listing.list_statement.Goals as goal

pub loop-i-init : goal.loop-i-init
loop-i-init g c = lay_none (tagged c.args.unit c.args.found.at) c.as_slice-words.result.now (c.args.from + c.args.k) c.args.out.now

pub loop-i-preserved : goal.loop-i-preserved
loop-i-preserved g c =
    let h = tagged c.args.unit c.args.found.at in
    let words = c.as_slice-words.result.now in
    let start = c.args.from + c.args.k in
    let i = c.loop-i.i in
    ap (λ (xs : List ListedWord). overlaid xs (start + (i + 1)) (map h (drop (i + 1) words))) c.put.ensures
    ∙ sym (lay_more h words start c.loop-i.out i (c.args.from + (c.args.k + i)) (get_or words i 0) (slice_get-get_or words i 0 c.loop-i-test.true) (omega arith))
    ∙ c.loop-i.invariant

pub returns : goal.returns
returns g c =
    let h = tagged c.args.unit c.args.found.at in
    let f = word (g.N.FirstVariables.first c.args.reader.now.names.now) in
    let ns = words_of (item_in c.args.reader.now.text.now c.args.found.item) in
    let words = c.as_slice-words.result.now in
    let start = c.args.from + c.args.k in
    let all = c.as_slice-words.ensures.value ∙ c.words_of-words.ensures in
    record {
      written = sym (lay_all h words start c.loop-i.out c.loop-i.i c.loop-i-test.false) ∙ c.loop-i.invariant ∙ ap (λ (vs : List ℕ). overlaid c.args.out.now start (map h vs)) all;
      count = ap (λ (vs : List ℕ). c.args.k + length vs) all ∙ ap (λ (n : ℕ). c.args.k + n) (sym (length-map (map f ns) h));
      few = omega (arith, c.as_slice-words.ensures.fits);
    }
