-- Books with the same texts give the same replies.
use Rattle.std.proofs.Common.{◌≡◌, ℕ, zero, suc, Bool, cond, ◌&&◌, T, ltb, List, Some, None, Ok, Option, sym, refl, ap, ◌∙◌, arith}
use Rattle.std.proofs.lemmas.Bool.{ltb-true}
use Rattle.constraints.proofs.Rows.{same_test}
use Rattle.constraints.proofs.Finite.{any_intro, any_elim, and_intro, and_left, and_right}
use Rattle.constraints.proofs.Valid.{least_below}
use Rattle.constraints.proofs.Embed.{embeds_pairs, embeds_image}
use Rattle.lexemes.specs.Terminals.{Name}
use Rattle.grammar.specs.Grammar.{Place}
use Rattle.units.specs.Words.{Cell}
use Rattle.units.specs.Statements.{cell}
use Rattle.declarations.specs.Declarations.{size_of, has_slot}
use Rattle.questions.specs.Questions.{place_of, name_of}
use Rattle.books.specs.Members.{◌⊆◌}
use Rattle.books.specs.Tables.{Within, number, slot}
use Rattle.books.specs.Books.{Book, table, list_of, row, standing}
use Rattle.books.specs.Replies.{known, known_cell, known_name, place_among, name_in, has_object, shares, asked, points, alias, SameTextsSameReplies, KnownIsWithin, MoreTextsMorePairs}
use Rattle.books.proofs.Options.{none_some, let_pass}
use Rattle.books.proofs.Embedding.{SameCell, grown}
use Rattle.books.proofs.Faultless.{slot_in}
use Rattle.books.proofs.Lists.{table_grows, list_valid, book_embeds}
use Rattle.books.proofs.Units.{texts_within}

module _ (ts us : List (List ℕ)) (few : Book ts) (many : Book us) (sub : ts ⊆ us) where
  same_cell : (c : Cell) → Within (table ts) c → SameCell (table ts) (table us) (number (table ts) c) (number (table us) c)
  same_cell c c_in = (c, c_in, refl, refl)

  -- a yes stays a yes
  more_pairs : (c : Cell) (n : List ℕ) → Within (table ts) c → Within (table ts) (slot n 0) → T (has_object ts c n) → T (has_object us c n)
  more_pairs c n c_in n_in t =
      embeds_pairs (SameCell (table ts) (table us)) (list_of ts) (list_of us) (book_embeds ts us few many sub) (number (table ts) c) (number (table us) c)
      (number (table ts) (slot n 0)) (number (table us) (slot n 0)) (same_cell c c_in) (same_cell (slot n 0) n_in) t

  abbrev Shared : List (List ℕ) → Cell → Cell → ℕ → Bool
  Shared xs c d o = row xs c o && row xs d o

  -- two rows that share an object still share one
  more_shared : (c d : Cell) → Within (table ts) c → Within (table ts) d → T (shares ts c d) → T (shares us c d)
  more_shared c d c_in d_in t =
      let embedding = book_embeds ts us few many sub in
      let V = SameCell (table ts) (table us) in
      let (o, o_in, both) = any_elim 256 (Shared ts c d) t in
      let (v, x, at_v, at_x, left) = embeds_image V (list_of ts) (list_of us) embedding (number (table ts) c) o (and_left (row ts c o) (row ts d o) both) in
      let (w, y, at_w, at_y, right) = embeds_image V (list_of ts) (list_of us) embedding (number (table ts) d) o (and_right (row ts c o) (row ts d o) both) in
      let v_c : v ≡ number (table us) c = embedding.one (number (table ts) c) v (number (table us) c) at_v (same_cell c c_in) in
      let w_d : w ≡ number (table us) d = embedding.one (number (table ts) d) w (number (table us) d) at_w (same_cell d d_in) in
      let one : y ≡ x = embedding.one o y x at_y at_x in
      let l : T (row us c x) = rw v_c at left in
      let r : T (row us d x) = rw (w_d, one) at right in
      let below = (least_below (list_of us) (list_valid us many) (number (table us) c) x l).1 in
      any_intro 256 (Shared us c d) x (omega (arith, below, many.few)) (and_intro (row us c x) (row us d x) l r)

pub more_texts : MoreTextsMorePairs
more_texts ts us few many sub = more_pairs ts us few many sub

module _ (texts : List (List ℕ)) where
  known_within : (o : Option Place) (c : Cell) → known_cell texts o ≡ Some c → Within (table texts) c
  known_within None c e = absurd (none_some e)
  known_within (Some p) c e =
      let (is, same) = let_pass (known texts p) (cell p) c e in
      rw (← same) (slot_in p.slot (size_of (table texts) p.base.bytes) is)

  named_within : (o : Option Name) (n : List ℕ) → known_name texts o ≡ Some n → Within (table texts) (slot n 0)
  named_within None n e = absurd (none_some e)
  named_within (Some m) n e =
      let (is, same) = let_pass (ltb 0 (size_of (table texts) m.bytes)) m.bytes n e in
      rw (← same) (ltb-true 0 (size_of (table texts) m.bytes) is)

pub known_is_within : KnownIsWithin
unfolding place_among name_in
known_is_within texts bytes = (known_within texts (place_of bytes), named_within texts (name_of bytes))

module _ (ts us : List (List ℕ)) (one : Book ts) (other : Book us) (there : ts ⊆ us) (back : us ⊆ ts) where
  pub same_size : (n : List ℕ) → size_of (table ts) n ≡ size_of (table us) n
  same_size n = go (size_of (table ts) n) refl (size_of (table us) n) refl
    where
      go : (k : ℕ) → size_of (table ts) n ≡ k → (l : ℕ) → size_of (table us) n ≡ l → size_of (table ts) n ≡ size_of (table us) n
      go zero e zero f = e ∙ sym f
      go zero e (suc l) f = table_grows us ts one.agreed back n (omega arith)
      go (suc k) e l f = sym (table_grows ts us other.agreed there n (omega arith))

  there_within : (c : Cell) → Within (table ts) c → Within (table us) c
  there_within c c_in = grown (table ts) (table us) c (table_grows ts us other.agreed there) c_in

  same_cells : (o : Option Place) → known_cell ts o ≡ known_cell us o
  same_cells None = refl
  same_cells (Some p) = λ i. cond (has_slot p.slot (same_size p.base.bytes i)) (Some (cell p)) None

  same_names : (o : Option Name) → known_name ts o ≡ known_name us o
  same_names None = refl
  same_names (Some n) = λ i. cond (ltb 0 (same_size n.bytes i)) (Some n.bytes) None

  pub same_place : (bytes : List ℕ) → place_among ts bytes ≡ place_among us bytes
  unfolding place_among
  same_place bytes = same_cells (place_of bytes)

  pub same_name : (bytes : List ℕ) → name_in ts bytes ≡ name_in us bytes
  unfolding name_in
  same_name bytes = same_names (name_of bytes)

  pub same_object : (c : Cell) (n : List ℕ) → Within (table ts) c → Within (table ts) (slot n 0) → has_object ts c n ≡ has_object us c n
  same_object c n c_in n_in =
      same_test (has_object ts c n) (has_object us c n) (more_pairs ts us one other there c n c_in n_in)
      (more_pairs us ts other one back c n (there_within c c_in) (there_within (slot n 0) n_in))

  pub same_shares : (c d : Cell) → Within (table ts) c → Within (table ts) d → shares ts c d ≡ shares us c d
  same_shares c d c_in d_in =
      same_test (shares ts c d) (shares us c d) (more_shared ts us one other there c d c_in d_in)
      (more_shared us ts other one back c d (there_within c c_in) (there_within d d_in))

  -- the replies, whatever the refusals
  pub same_points : {F : Type 0} (a b : F) (p n : List ℕ) → points a b ts p n ≡ points a b us p n
  same_points {F} a b p n =
      go (place_among ts p) refl (name_in ts n) refl ∙ (λ i. asked a (same_place p i) (λ c. asked b (same_name n i) (λ m. Ok (has_object us c m))))
    where
      go : (o : Option Cell) → place_among ts p ≡ o → (q : Option (List ℕ)) → name_in ts n ≡ q
          → asked {Y = Bool} {F = F} a o (λ c. asked b q (λ m. Ok (has_object ts c m))) ≡ asked a o (λ c. asked b q (λ m. Ok (has_object us c m)))
      go None e q f = refl
      go (Some c) e None f = refl
      go (Some c) e (Some m) f = ap Ok (same_object c m ((known_is_within ts p).0 c e) ((known_is_within ts n).1 m f))

  pub same_alias : {F : Type 0} (a b : F) (p q : List ℕ) → alias a b ts p q ≡ alias a b us p q
  same_alias {F} a b p q =
      go (place_among ts p) refl (place_among ts q) refl ∙ (λ i. asked a (same_place p i) (λ c. asked b (same_place q i) (λ d. Ok (shares us c d))))
    where
      go : (o : Option Cell) → place_among ts p ≡ o → (r : Option Cell) → place_among ts q ≡ r
          → asked {Y = Bool} {F = F} a o (λ c. asked b r (λ d. Ok (shares ts c d))) ≡ asked a o (λ c. asked b r (λ d. Ok (shares us c d)))
      go None e r f = refl
      go (Some c) e None f = refl
      go (Some c) e (Some d) f = ap Ok (same_shares c d ((known_is_within ts p).0 c e) ((known_is_within ts q).0 d f))

pub same_replies : SameTextsSameReplies
same_replies b c one other (there, back) p q =
    let forth = texts_within b c there in
    let home = texts_within c b back in
    (same_points (standing b) (standing c) one other forth home 22 23 p q, same_alias (standing b) (standing c) one other forth home 22 23 p q)
