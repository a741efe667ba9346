-- Places and names of a settled analyser are variables and objects of its engine's list.
use Rattle.std.proofs.Common.{◌≡◌, ℕ, ◌<◌, Bool, true, cond, ◌&&◌, List, Some, None, Ok, Err, Option, Result, sym, refl, ap, ◌∙◌, subst}
use Rattle.constraints.specs.Constraint.{length_of, var_count}
use Rattle.constraints.specs.Finite.{any}
use Rattle.constraints.specs.Least.{least}
use Rattle.units.specs.Words.{Cell}
use Rattle.engine.specs.Meanings.{Meaning}
use Rattle.std.specs.Option.{ok_or}
use Rattle.books.specs.Books.{Units, table}
use Rattle.books.specs.Tables.{Within, number, slot}
use Rattle.books.specs.Replies.{place_among, name_in, points, alias, asked, has_object, shares}
use Rattle.books.proofs.Replies.{known_is_within}
use Rattle.books.proofs.Tables.{number_below, length_at}
use Rattle.standing.specs.States.{cell_number, object_number}
use Rattle.host_analyser.specs.declared.refusal.Refusal.{Refusal}
use Rattle.host_analyser.specs.declared.refusal.Refusal.TheVariants.{NotSettled, NoPlace, Unknown}
use Rattle.host_analyser.specs.Books.{Book, texts_of, book_list}
use Rattle.host_analyser.specs.Objects.{AnswersFor}
use Rattle.host_analyser.specs.Replies.{points_reply, alias_reply}

-- where `ok_or` gives an error, there was nothing, and it is the one that was passed
pub refused_by : {X : Type 0} (o : Option X) (e f : Refusal) → ok_or o e ≡ Err f → (o ≡ None) × (f ≡ e)
refused_by None e f h = (refl, cc h)
refused_by (Some x) e f h = cc h

no_cell : (units : Units) (o : Option Cell) → None ≡ cell_number units o → o ≡ None
no_cell units None e = refl
no_cell units (Some c) e = cc e

no_object : (units : Units) (o : Option (List ℕ)) → None ≡ object_number units o → o ≡ None
no_object units None e = refl
no_object units (Some n) e = cc e

some_cell : (units : Units) (o : Option Cell) (v : ℕ) → Some v ≡ cell_number units o → (c : Cell) × (o ≡ Some c)
some_cell units None v e = cc e
some_cell units (Some c) v e = (c, refl)

-- without a place, or with one and without a name or a second place
module _ (b : Book) (open_book : b.settled ≡ true) (p q : List ℕ) where
  points_opened : (o : Option Cell) (k : Option (List ℕ)) → place_among (texts_of b) p ≡ o → name_in (texts_of b) q ≡ k
      → asked NoPlace o (λ c. asked Unknown k (λ n. Ok (has_object (texts_of b) c n))) ≡ points_reply b p q
  points_opened o k e f =
      ap (λ x. asked NoPlace x (λ c. asked Unknown k (λ n. Ok (has_object (texts_of b) c n)))) (sym e)
      ∙ ap (λ x. asked NoPlace (place_among (texts_of b) p) (λ c. asked Unknown x (λ n. Ok (has_object (texts_of b) c n)))) (sym f)
      ∙ sym (ap (λ s. cond s (points NoPlace Unknown (texts_of b) p q) (Err NotSettled)) open_book)

  pub points_placeless : None ≡ cell_number b.units (place_among (texts_of b) p) → Err NoPlace ≡ points_reply b p q
  points_placeless e = points_opened None _ (no_cell b.units _ e) refl

  pub points_nameless : (v : ℕ) → Some v ≡ cell_number b.units (place_among (texts_of b) p) → None ≡ object_number b.units (name_in (texts_of b) q) → Err Unknown ≡ points_reply b p q
  points_nameless v e f =
      let (c, is) = some_cell b.units _ v e in
      points_opened (Some c) None is (no_object b.units _ f)

  alias_opened : (o k : Option Cell) → place_among (texts_of b) p ≡ o → place_among (texts_of b) q ≡ k
      → asked NoPlace o (λ c. asked Unknown k (λ d. Ok (shares (texts_of b) c d))) ≡ alias_reply b p q
  alias_opened o k e f =
      ap (λ x. asked NoPlace x (λ c. asked Unknown k (λ d. Ok (shares (texts_of b) c d)))) (sym e)
      ∙ ap (λ x. asked NoPlace (place_among (texts_of b) p) (λ c. asked Unknown x (λ d. Ok (shares (texts_of b) c d)))) (sym f)
      ∙ sym (ap (λ s. cond s (alias NoPlace Unknown (texts_of b) p q) (Err NotSettled)) open_book)

  pub alias_placeless : None ≡ cell_number b.units (place_among (texts_of b) p) → Err NoPlace ≡ alias_reply b p q
  alias_placeless e = alias_opened None _ (no_cell b.units _ e) refl

  pub alias_of_one : (v : ℕ) → Some v ≡ cell_number b.units (place_among (texts_of b) p) → None ≡ cell_number b.units (place_among (texts_of b) q) → Err Unknown ≡ alias_reply b p q
  alias_of_one v e f =
      let (c, is) = some_cell b.units _ v e in
      alias_opened (Some c) None is (no_cell b.units _ f)

-- a settled engine that holds the book's list
module _ (b : Book) (m : Meaning) (holds : m.system ≡ book_list b) (settled : m.settled ≡ true) where
  pub answers_for : (c : Cell) → Within (table (texts_of b)) c → AnswersFor m (number (table (texts_of b)) c)
  answers_for c c_in =
      record {
        settled = settled;
        row = subst (λ sys. number (table (texts_of b)) c < var_count sys) (sym holds) (number_below (table (texts_of b)) c c_in);
      }

  pub is_object : (n : List ℕ) → Within (table (texts_of b)) (slot n 0) → 0 < length_of m.system.blocks (number (table (texts_of b)) (slot n 0))
  is_object n n_in =
      subst (λ sys. 0 < length_of sys.blocks (number (table (texts_of b)) (slot n 0))) (sym holds)
      (rw (length_at (table (texts_of b)) (slot n 0) n_in) n_in)

  row_is : (v o : ℕ) → least m.system v o ≡ least (book_list b) v o
  row_is v o = ap (λ sys. least sys v o) holds

  module _ (open_book : b.settled ≡ true) where
    points_known : (o : Option Cell) → ((c : Cell) → o ≡ Some c → Within (table (texts_of b)) c) → (k : Option (List ℕ)) → ((n : List ℕ) → k ≡ Some n → Within (table (texts_of b)) (slot n 0))
        → (v x : ℕ) → Some v ≡ cell_number b.units o → Some x ≡ object_number b.units k → (r : Bool)
        → (AnswersFor m v → 0 < length_of m.system.blocks x → r ≡ least m.system v x)
        → ◌≡◌ {A = Result Bool Refusal} (Ok r) (asked NoPlace o (λ c. asked Unknown k (λ n. Ok (has_object (texts_of b) c n))))
    points_known None o_in k k_in v x e f r says = cc e
    points_known (Some c) o_in None k_in v x e f r says = cc f
    points_known (Some c) o_in (Some n) k_in v x e f r says =
        let at_v : v ≡ number (table (texts_of b)) c = cc e in
        let at_x : x ≡ number (table (texts_of b)) (slot n 0) = cc f in
        let c_in = o_in c refl in
        let n_in = k_in n refl in
        ap Ok
        (says (subst (AnswersFor m) (sym at_v) (answers_for c c_in)) (subst (λ y. 0 < length_of m.system.blocks y) (sym at_x) (is_object n n_in))
        ∙ row_is v x ∙ ap (λ y. least (book_list b) y x) at_v ∙ ap (λ y. least (book_list b) (number (table (texts_of b)) c) y) at_x)

    pub points_answered : (p n : List ℕ) (v x : ℕ) → Some v ≡ cell_number b.units (place_among (texts_of b) p) → Some x ≡ object_number b.units (name_in (texts_of b) n)
        → (r : Bool) → (AnswersFor m v → 0 < length_of m.system.blocks x → r ≡ least m.system v x) → Ok r ≡ points_reply b p n
    points_answered p n v x e f r says =
        points_known (place_among (texts_of b) p) (known_is_within (texts_of b) p).0 (name_in (texts_of b) n) (known_is_within (texts_of b) n).1 v x e f r says
        ∙ sym (ap (λ s. cond s (points NoPlace Unknown (texts_of b) p n) (Err NotSettled)) open_book)

    alias_known : (o k : Option Cell) → ((c : Cell) → o ≡ Some c → Within (table (texts_of b)) c) → ((c : Cell) → k ≡ Some c → Within (table (texts_of b)) c)
        → (v w : ℕ) → Some v ≡ cell_number b.units o → Some w ≡ cell_number b.units k → (r : Bool)
        → (AnswersFor m v → AnswersFor m w → r ≡ any 256 (λ x. least m.system v x && least m.system w x))
        → ◌≡◌ {A = Result Bool Refusal} (Ok r) (asked NoPlace o (λ c. asked Unknown k (λ d. Ok (shares (texts_of b) c d))))
    alias_known None k o_in k_in v w e f r says = cc e
    alias_known (Some c) None o_in k_in v w e f r says = cc f
    alias_known (Some c) (Some d) o_in k_in v w e f r says =
        let at_v : v ≡ number (table (texts_of b)) c = cc e in
        let at_w : w ≡ number (table (texts_of b)) d = cc f in
        ap Ok
        (says (subst (AnswersFor m) (sym at_v) (answers_for c (o_in c refl))) (subst (AnswersFor m) (sym at_w) (answers_for d (k_in d refl)))
        ∙ ap (λ sys. any 256 (λ x. least sys v x && least sys w x)) holds
        ∙ ap (λ y. any 256 (λ x. least (book_list b) y x && least (book_list b) w x)) at_v
        ∙ ap (λ y. any 256 (λ x. least (book_list b) (number (table (texts_of b)) c) x && least (book_list b) y x)) at_w)

    pub alias_answered : (p q : List ℕ) (v w : ℕ) → Some v ≡ cell_number b.units (place_among (texts_of b) p) → Some w ≡ cell_number b.units (place_among (texts_of b) q)
        → (r : Bool) → (AnswersFor m v → AnswersFor m w → r ≡ any 256 (λ x. least m.system v x && least m.system w x)) → Ok r ≡ alias_reply b p q
    alias_answered p q v w e f r says =
        alias_known (place_among (texts_of b) p) (place_among (texts_of b) q) (known_is_within (texts_of b) p).0 (known_is_within (texts_of b) q).0 v w e f r says
        ∙ sym (ap (λ s. cond s (alias NoPlace Unknown (texts_of b) p q) (Err NotSettled)) open_book)
