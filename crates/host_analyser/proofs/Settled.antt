-- What a settle that fails for room says, and what it leaves.
use Rattle.std.proofs.Common.{◌≡◌, ◌<◌, false, List, Ok, Err, MatchBool, Result, sym, refl, ap, ◌∙◌, subst, subst₂, ⊎_elim}
use Rattle.std.proofs.lemmas.Bool.{cases_lt}
use Rattle.constraints.specs.Constraint.{System}
use Rattle.constraints.specs.Rows.{total}
use Rattle.constraints.specs.Least.{least}
use Rattle.units.specs.declared.listing.ListedWord.{ListedWord}
use Rattle.engine.specs.Meanings.{Rule, Roomy, Overflows}
use Rattle.engine.specs.declared.fault.EngineFault.TheVariants.{NoRoom as NoRoomBelow}
use Rattle.engine.specs.declared.fault.Overflow.{Overflow}
use Rattle.books.specs.Books.{Units, Book as Lawful}
use Rattle.books.specs.Listing.{listed_words}
use Rattle.books.proofs.Lists.{list_valid}
use Rattle.books.proofs.Listing.{words_have_origins}
use Rattle.host_analyser.specs.declared.refusal.Refusal.{Refusal}
use Rattle.host_analyser.specs.declared.refusal.Refusal.TheVariants.{SettledAlready, NoRoom}
use Rattle.host_analyser.specs.declared.refusal.RoomFault.{RoomFault}
use Rattle.host_analyser.specs.Books.{Book, texts_of, book_list}
use Rattle.host_analyser.specs.Replies.{OutOfRoom, SettleResult}
use Rattle.host_analyser.specs.Settling.{Locates}

module _ (rule : Rule) (b : Book) (lawful : Lawful (texts_of b)) where
  -- a list that does not fit has more pairs than the room
  crowded : Roomy rule → rule.fits (book_list b) ≡ false → rule.room < total (least (book_list b))
  crowded roomy unfit =
      ⊎_elim (λ lt. lt)
      (λ le. cc (unfit, roomy (book_list b) (list_valid (texts_of b) lawful) le))
      (cases_lt rule.room (total (least (book_list b))))

  pub out_of_room : Roomy rule → rule.fits (book_list b) ≡ false → (o : Overflow) → Overflows rule (book_list b) o → (f : RoomFault)
      → Locates b.units (listed_words b.units) (NoRoomBelow o) f → OutOfRoom rule b f
  out_of_room roomy unfit o overflows f locates =
      let from = words_have_origins b.units o.position overflows.within in
      record {
        overflow = o;
        word = from.listed;
        text = from.text;
        overflows = overflows;
        crowded = crowded roomy unfit;
        named = from.is;
        stands = from.stands;
        carried = locates o from.listed from.text refl from.is from.stands;
      }

-- over what the code has: a list and units that are equal to the book's
pub no_room : (rule : Rule) (b : Book) → Lawful (texts_of b) → Roomy rule → (sys : System) → sys ≡ book_list b → (units : Units) → units ≡ b.units
    → (listed : List ListedWord) → listed ≡ listed_words b.units → rule.fits sys ≡ false → (o : Overflow) → Overflows rule sys o → (f : RoomFault)
    → Locates units listed (NoRoomBelow o) f → (rule.fits (book_list b) ≡ false) × OutOfRoom rule b f
no_room rule b lawful roomy sys sys_is units units_are listed listed_are unfit o overflows f locates =
    let unfit' = ap rule.fits (sym sys_is) ∙ unfit in (
      unfit',
      out_of_room rule b lawful roomy unfit' o (subst (λ s. Overflows rule s o) sys_is overflows) f
          (subst₂ (λ us ws. Locates us ws (NoRoomBelow o) f) units_are listed_are locates),
    )

pub says_no_room : (rule : Rule) (b : Book) (f : RoomFault) → b.settled ≡ false → rule.fits (book_list b) ≡ false → OutOfRoom rule b f → SettleResult rule b (Err (NoRoom f))
says_no_room rule b f open_book unfit room =
    let r : Result (Unit {0}) Refusal = Err (NoRoom f) in
    subst₂ (λ s x. MatchBool s (r ≡ Err SettledAlready) (MatchBool x (r ≡ Ok tt) ((g : RoomFault) × (r ≡ Err (NoRoom g)) × OutOfRoom rule b g))) (sym open_book) (sym unfit) (f, refl, room)
