use Rattle.std.proofs.Common.{◌≤◌, List, map, length, refl, ap, ◌∙◌, arith}
use Rattle.units.specs.declared.listing.ListedWord.{ListedWord}
use Rattle.names.specs.Held.{notes}
use Rattle.books.specs.Books.{standing}
use Rattle.books.specs.Listing.{listing_from, word_of}
use Rattle.books.proofs.Listing.{listing_words}
use Rattle.standing.specs.Knowledge.{Sound}
use Rattle.standing.specs.Firsts.{firsts_of}
use Rattle.standing.specs.Lists.{list_in}
use Rattle.standing.specs.States.{units_of, owned_name, LaidOut}
use Rattle.standing.proofs.Sounds.{is_sound}
use Rattle.standing.proofs.Placing.{same_knows, same_unplaced, laid_none}
use Rattle.standing.proofs.Listing.{list_same, listed_few, list_is}
use Rattle.standing.proofs.standing_units.StandingUnits.lay_out.Goals as goal

pub invariant_of-self : goal.invariant_of-self
invariant_of-self c =
    let t = c.args.self.now in
    let s = is_sound t.sound in
    let unplaced = same_unplaced (notes t.names) (notes c.unplace_all.new.self) c.unplace_all.ensures.after in
    let kept : Sound t.texts c.place_units.new.names t.words t.calls = record {
      eight = s.eight;
      book = s.book;
      admitted = s.admitted;
      known = same_knows c.place_units.ensures.same (same_knows unplaced s.known);
      words_counted = s.words_counted;
      calls_counted = s.calls_counted;
    } in
    record { sound = ∣ kept ∣₁ }

pub returns : goal.returns
unfolding LaidOut
returns c =
    let t = c.args.self.now in
    let units = units_of t in
    let s = is_sound t.sound in
    let after = c.unplace_all.ensures.after in
    let unplaced = same_unplaced (notes t.names) (notes c.unplace_all.new.self) after in
    let start = laid_none (notes t.names) (notes c.unplace_all.new.self) after units c.clear.new.self c.clear.ensures.blocks c.clear.ensures.variables in
    let laid = c.place_units.ensures.laid (record { book = s.book; admitted = s.admitted }) (same_knows unplaced s.known) start in
    let whole = list_same units (notes c.place_units.new.names) s.book laid.firsts in
    let few : length (listing_from (firsts_of c.place_units.new.names) 0 units) ≤ 512 = omega (arith, ap length whole, listed_few units s.book) in
    let listed = c.fill.ensures.listed few ∙ whole in
    record {
      same = refl;
      lists = list_is (standing units) (list_in c.fill.new.self) (c.fill.ensures.blocks ∙ laid.lengths)
          (c.fill.ensures.words ∙ ap (λ (ls : List ListedWord). map word_of ls) listed ∙ listing_words units);
      origins = listed;
      owners = ap (map (owned_name units)) c.fill.ensures.owners ∙ laid.owned;
      laid = laid.firsts;
      book = s.book;
    }
