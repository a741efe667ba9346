-- The target list of a pointer, as it is counted and written.
use Rattle.std.proofs.Common.{◌≡◌, ℕ, ◌+◌, ◌<◌, ◌≤◌, Bool, true, cond, not, ltb, List, [], ◌∷◌, ◌++◌, map, length, get_or, drop, set, is_some, Some, None, Ok, Err, Option, Result, sym, refl, ap, ◌∙◌, subst, append_assoc, arith}
use Rattle.std.specs.List.{AllByRecursion}
use Rattle.std.proofs.lemmas.Bool.{lt-ltb, le-ltb}
use Rattle.std.proofs.lemmas.List.{length_push}
use Rattle.constraints.specs.Constraint.{System}
use Rattle.constraints.specs.Least.{least}
use Rattle.units.specs.Words.{Cell}
use Rattle.units.specs.Listing.{overlaid}
use Rattle.declarations.specs.Declarations.{Entry}
use Rattle.engine.specs.Meanings.{Meaning}
use Rattle.books.specs.Books.{Units, standing, table, row, Book as Lawful}
use Rattle.books.specs.Tables.{Within, number}
use Rattle.books.specs.Targets.{targets}
use Rattle.books.proofs.Counts.{stood_there}
use Rattle.books.proofs.Lists.{all_distinct, all_short}
use Rattle.books.proofs.Pointers.{pointers_within}
use Rattle.standing.specs.declared.refusal.UnitRefusal.{UnitRefusal}
use Rattle.standing.specs.declared.refusal.UnitRefusal.TheVariants.{NoSuchUnit, NothingStands, NoSuchCall}
use Rattle.standing.specs.declared.list.Owner.{Owner}
use Rattle.standing.specs.declared.list.UnitList.{UnitList}
use Rattle.standing.specs.declared.standing_units.StandingUnits.{StandingUnits}
use Rattle.standing.specs.Calls.{call_refusal, call_pointer, pointer_in}
use Rattle.standing.specs.Loads.{stands}
use Rattle.standing.specs.Refusals.{refused_if, earliest}
use Rattle.standing.specs.States.{units_of, cell_number, pointer_or, pointer_reply, owned_name, name_in_entry}
use Rattle.host_analyser.specs.declared.refusal.Refusal.{Refusal}
use Rattle.host_analyser.specs.declared.refusal.Refusal.TheVariants.{Unit as OfUnit, NotSettled, BufferTooShort}
use Rattle.host_analyser.specs.Books.{Book, texts_of, book_list}
use Rattle.host_analyser.specs.Listing.{Short, Tabled}
use Rattle.host_analyser.specs.Objects.{AnswersFor}
use Rattle.host_analyser.specs.Replies.{target_bytes, listing_of, targets_reply, targets_buffer, after_reply, pointer_or_refused}
use Rattle.standing.specs.Lists.{list_in, owners_in}
use Rattle.host_analyser.specs.InStep.{SettledRight}
use Rattle.host_analyser.proofs.Located.{answers_for}

shorter : (es : List Entry) → AllByRecursion Rattle.books.specs.Counts.Short es → AllByRecursion Short es
shorter [] all = tt
shorter (e ∷ es) (s, all) = (s.1, shorter es all)

pub table_short : (texts : List (List ℕ)) → AllByRecursion Short (table texts)
unfolding table
table_short texts = shorter _ (all_distinct Rattle.books.specs.Counts.Short _ (all_short texts))

-- what a settled analyser's list and engine are
pub tabled : (b : Book) → Lawful (texts_of b) → (m : Meaning) → m.system ≡ book_list b → (list : System) → list ≡ book_list b → (owners : List Owner)
    → map (owned_name b.units) owners ≡ map name_in_entry (table (texts_of b)) → Tabled (table (texts_of b)) m.system b.units list owners
tabled b lawful m holds list listed owners owned =
    record {
      held = ap (λ sys. sys.blocks) holds;
      laid = ap (λ sys. sys.blocks) listed;
      owned = owned;
      short = table_short (texts_of b);
      few = lawful.few;
    }

-- without a refusal there is a pointer
no_call : (o : Option Cell) → refused_if (not (is_some o)) NoSuchCall ≡ None → (c : Cell) × (o ≡ Some c)
no_call None e = cc e
no_call (Some c) e = (c, refl)

last_of : (a b c : Option UnitRefusal) → earliest (a ∷ b ∷ c ∷ []) ≡ None → c ≡ None
last_of None None None e = refl
last_of None None (Some f) e = e
last_of None (Some f) c e = cc e
last_of (Some f) b c e = cc e

pub has_pointer : (units : Units) (u i : ℕ) → call_refusal units u i ≡ None → (c : Cell) × (call_pointer units u i ≡ Some c)
unfolding call_refusal
has_pointer units u i e = no_call (call_pointer units u i) (last_of (refused_if (ltb 7 u) NoSuchUnit) (refused_if (not (stands units u)) NothingStands) (refused_if (not (is_some (call_pointer units u i))) NoSuchCall) e)

pointed : (units : Units) (texts : List (List ℕ)) (u i : ℕ) (c : Cell) → standing units ≡ texts → Lawful texts → (o : Option (List ℕ)) → get_or units u None ≡ o → pointer_in o i ≡ Some c → Within (table texts) c
pointed units texts u i c are lawful None e p = cc p
pointed units texts u i c are lawful (Some t) e p = pointers_within texts lawful t (subst (λ ts. Rattle.books.specs.Members.◌∈◌ t ts) are (stood_there units u t e)) i c p

pub pointer_within : (units : Units) → Lawful (standing units) → (u i : ℕ) (c : Cell) → call_pointer units u i ≡ Some c → Within (table (standing units)) c
pointer_within units lawful u i c e = pointed units (standing units) u i c refl lawful (get_or units u None) refl e

-- the code's reply, read
pub found_pointer : (units : Units) (u i v : ℕ) → Ok v ≡ pointer_reply units u i
    → (call_refusal units u i ≡ None) × (c : Cell) × (call_pointer units u i ≡ Some c) × (v ≡ number (table (standing units)) c)
found_pointer units u i v e = go (call_refusal units u i) refl (call_pointer units u i) refl e
  where
    go : (o : Option UnitRefusal) → call_refusal units u i ≡ o → (p : Option Cell) → call_pointer units u i ≡ p → ◌≡◌ {A = Result ℕ UnitRefusal} (Ok v) (pointer_or o (cell_number units p))
        → (call_refusal units u i ≡ None) × (c : Cell) × (call_pointer units u i ≡ Some c) × (v ≡ number (table (standing units)) c)
    go (Some f) r p q e = cc e
    go None r None q e = cc e
    go None r (Some c) q e = (r, c, q, cc e)

pub refused_pointer : (units : Units) (u i : ℕ) (f : UnitRefusal) → Err f ≡ pointer_reply units u i → call_refusal units u i ≡ Some f
refused_pointer units u i f e = go (call_refusal units u i) refl (call_pointer units u i) refl e
  where
    go : (o : Option UnitRefusal) → call_refusal units u i ≡ o → (p : Option Cell) → call_pointer units u i ≡ p → ◌≡◌ {A = Result ℕ UnitRefusal} (Err f) (pointer_or o (cell_number units p))
        → call_refusal units u i ≡ Some f
    go (Some g) r p q e = r ∙ ap Some (cc e)
    go None r None q e = let (c, is) = has_pointer units u i r in cc (q, is)
    go None r (Some c) q e = cc e

set_at : (pre : List ℕ) (r b : ℕ) (rest : List ℕ) → set (pre ++ r ∷ rest) (length pre) b ≡ (pre ++ b ∷ []) ++ rest
set_at [] r b rest = refl
set_at (p ∷ pre) r b rest = ap (λ xs. p ∷ xs) (set_at pre r b rest)

front : (pre rest bytes : List ℕ) → length bytes ≤ length rest → overlaid (pre ++ rest) (length pre) bytes ≡ pre ++ (bytes ++ drop (length bytes) rest)
front pre rest [] h = refl
front pre [] (b ∷ bs) h = absurd (omega arith)
front pre (r ∷ rest) (b ∷ bs) h =
    ap (λ xs. overlaid xs (length pre + 1) bs) (set_at pre r b rest)
    ∙ ap (λ n. overlaid ((pre ++ b ∷ []) ++ rest) n bs) (sym (length_push pre b))
    ∙ front (pre ++ b ∷ []) rest bs (omega arith)
    ∙ append_assoc pre (b ∷ []) (bs ++ drop (length bs) rest)

-- bytes written over a buffer that has places for all of them
pub overlaid_front : (bytes buffer : List ℕ) → length bytes ≤ length buffer → overlaid buffer 0 bytes ≡ bytes ++ drop (length bytes) buffer
overlaid_front bytes buffer fits = front [] buffer bytes fits

module _ (b : Book) (open_book : b.settled ≡ true) (u i : ℕ) (buffer : List ℕ) where
  pub refused_targets : (f : UnitRefusal) → call_refusal b.units u i ≡ Some f → targets_reply b u i buffer ≡ Err (OfUnit f)
  refused_targets f e =
      let Y : Result ℕ Refusal = cond (ltb (length buffer) (length (target_bytes b u i))) (Err BufferTooShort) (Ok (length (target_bytes b u i))) in
      ap (λ s. cond s (pointer_or_refused (call_refusal b.units u i) Y) (Err NotSettled)) open_book ∙ ap (λ o. pointer_or_refused o Y) e

  module _ (c : Cell) (none : call_refusal b.units u i ≡ None) (is : call_pointer b.units u i ≡ Some c) where
    abbrev bytes_here : List ℕ
    bytes_here = targets (table (texts_of b)) (row (texts_of b) c)

    pub bytes_are : target_bytes b u i ≡ bytes_here
    bytes_are = ap (listing_of b) is

    reply_is : targets_reply b u i buffer ≡ cond (ltb (length buffer) (length bytes_here)) (Err BufferTooShort) (Ok (length bytes_here))
    reply_is =
        let Y : List ℕ → Result ℕ Refusal = λ bs. cond (ltb (length buffer) (length bs)) (Err BufferTooShort) (Ok (length bs)) in
        ap (λ s. cond s (pointer_or_refused (call_refusal b.units u i) (Y (target_bytes b u i))) (Err NotSettled)) open_book
        ∙ ap (λ o. pointer_or_refused o (Y (target_bytes b u i))) none ∙ ap Y bytes_are

    pub long_targets : length buffer < length bytes_here → targets_reply b u i buffer ≡ Err BufferTooShort
    long_targets h = reply_is ∙ ap (λ t. cond t (Err BufferTooShort) (Ok (length bytes_here))) (lt-ltb (length buffer) (length bytes_here) h)

    pub all_targets : length bytes_here ≤ length buffer → targets_reply b u i buffer ≡ Ok (length bytes_here)
    all_targets h = reply_is ∙ ap (λ t. cond t (Err BufferTooShort) (Ok (length bytes_here))) (le-ltb (length buffer) (length bytes_here) h)

    pub buffer_after : length bytes_here ≤ length buffer → overlaid buffer 0 bytes_here ≡ targets_buffer b u i buffer
    buffer_after h =
        overlaid_front bytes_here buffer h
        ∙ sym (ap (λ r. after_reply r (target_bytes b u i) buffer) (all_targets h) ∙ ap (λ bs. bs ++ drop (length bs) buffer) bytes_are)

  pub buffer_kept : (f : Refusal) → targets_reply b u i buffer ≡ Err f → buffer ≡ targets_buffer b u i buffer
  buffer_kept f e = sym (ap (λ r. after_reply r (target_bytes b u i) buffer) e)

-- what a settled analyser knows of a pointer
pub record Pointed (m : Meaning) (units : StandingUnits) (list : UnitList) (u i v : ℕ) : Type 0 where
  pub cell : Cell
  pub none : call_refusal (units_of units) u i ≡ None
  pub is : call_pointer (units_of units) u i ≡ Some cell
  pub answers : AnswersFor m v
  pub listed : Tabled (table (standing (units_of units))) m.system (units_of units) (list_in list) (owners_in list)
  pub row_is : least m.system v ≡ row (standing (units_of units)) cell

module _ (m : Meaning) (units : StandingUnits) (list : UnitList) (right : SettledRight m units list) (s : Bool) (open_book : s ≡ true) (u i v : ℕ)
    (found : Ok v ≡ pointer_reply (units_of units) u i) where
  abbrev book_here : Book
  book_here = record { units = units_of units; settled = s }

  abbrev table_here : List Entry
  table_here = table (standing (units_of units))

  pub pointer_ready : Pointed m units list u i v
  pointer_ready =
      let (none, cell, is, at_v) = found_pointer (units_of units) u i v found in
      record {
        cell = cell;
        none = none;
        is = is;
        answers = subst (AnswersFor m) (sym at_v) (answers_for book_here m right.holds right.settled cell (pointer_within (units_of units) right.lawful u i cell is));
        listed = tabled book_here right.lawful m right.holds (list_in list) right.listed (owners_in list) right.owned;
        row_is = ap (λ sys. least sys v) right.holds ∙ ap (λ x. least (book_list book_here) x) at_v;
      }

  -- the bytes of the list, as the engine counts them
  abbrev bytes_there : List ℕ
  bytes_there = targets table_here (row (standing (units_of units)) pointer_ready.cell)

  pub counted : (n : ℕ)
      → (Tabled table_here m.system (units_of units) (list_in list) (owners_in list) → AnswersFor m v → n ≡ length (targets table_here (least m.system v)))
      → n ≡ length bytes_there
  counted n counts = counts pointer_ready.listed pointer_ready.answers ∙ ap (λ r. length (targets table_here r)) pointer_ready.row_is

  module _ (buffer : List ℕ) (n : ℕ)
      (counts : Tabled table_here m.system (units_of units) (list_in list) (owners_in list) → AnswersFor m v → n ≡ length (targets table_here (least m.system v))) where
    -- the list is counted, and found too long
    pub too_long : length buffer < n → (◌≡◌ {A = Result ℕ Refusal} (Err BufferTooShort) (targets_reply book_here u i buffer)) × (buffer ≡ targets_buffer book_here u i buffer)
    too_long h =
        let long : length buffer < length bytes_there = omega (arith, counted n counts, h) in
        let refused = long_targets book_here open_book u i buffer pointer_ready.cell pointer_ready.none pointer_ready.is long in
        (sym refused, buffer_kept book_here open_book u i buffer BufferTooShort refused)

    -- the list is counted, found short enough, and then written, by an engine that means the same both times
    pub written : n ≤ length buffer → (k : Meaning) → k ≡ m → (n' : ℕ) (out : List ℕ)
        → (Tabled table_here k.system (units_of units) (list_in list) (owners_in list) → AnswersFor k v → n' ≡ length (targets table_here (least k.system v)))
        → (Tabled table_here k.system (units_of units) (list_in list) (owners_in list) → AnswersFor k v → out ≡ overlaid buffer 0 (targets table_here (least k.system v)))
        → (◌≡◌ {A = Result ℕ Refusal} (Ok n') (targets_reply book_here u i buffer)) × (out ≡ targets_buffer book_here u i buffer)
    written h k same n' out count writes =
        let fits : length bytes_there ≤ length buffer = omega (arith, counted n counts, h) in
        let count' = subst (λ x. Tabled table_here x.system (units_of units) (list_in list) (owners_in list) → AnswersFor x v → n' ≡ length (targets table_here (least x.system v))) same count in
        let writes' = subst (λ x. Tabled table_here x.system (units_of units) (list_in list) (owners_in list) → AnswersFor x v → out ≡ overlaid buffer 0 (targets table_here (least x.system v))) same writes in (
          ap Ok (counted n' count') ∙ sym (all_targets book_here open_book u i buffer pointer_ready.cell pointer_ready.none pointer_ready.is fits),
          writes' pointer_ready.listed pointer_ready.answers ∙ ap (λ r. overlaid buffer 0 (targets table_here r)) pointer_ready.row_is
              ∙ buffer_after book_here open_book u i buffer pointer_ready.cell pointer_ready.none pointer_ready.is fits,
        )

-- a pointer that is refused
pub refused_call : (units : StandingUnits) (s : Bool) → s ≡ true → (u i : ℕ) (buffer : List ℕ) (f : UnitRefusal) → Err f ≡ pointer_reply (units_of units) u i
    → let b : Book = record { units = units_of units; settled = s } in
    (◌≡◌ {A = Result ℕ Refusal} (Err (OfUnit f)) (targets_reply b u i buffer)) × (buffer ≡ targets_buffer b u i buffer)
refused_call units s open_book u i buffer f e =
    let b : Book = record { units = units_of units; settled = s } in
    let refused = refused_targets b open_book u i buffer f (refused_pointer (units_of units) u i f e) in
    (sym refused, buffer_kept b open_book u i buffer (OfUnit f) refused)
