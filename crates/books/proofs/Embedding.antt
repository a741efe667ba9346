-- Systems by names: one inside another under the relation "same name, same slot".
use Rattle.std.proofs.Common.{◌≡◌, ℕ, zero, suc, ◌+◌, ◌<◌, ◌≤◌, Bool, true, false, cond, eqb, List, sym, refl, ap, ◌∙◌, not-suc-le-zero, arith}
use Rattle.std.proofs.lemmas.Bool.{eqb-true}
use Rattle.constraints.specs.declared.constraint.Constraint.{Constraint}
use Rattle.constraints.specs.Constraint.{of_kind, decode, System, Has, variables, length_of}
use Rattle.constraints.proofs.Encoding.{decode_word_of}
use Rattle.constraints.specs.Embed.{Counterpart, Embeds}
use Rattle.books.specs.Members.{◌∈◌, ◌⊆◌}
use Rattle.units.specs.Words.{Cell, Named, word}
use Rattle.declarations.specs.Declarations.{Entry, size_of}
use Rattle.books.specs.Tables.{first_of, blocks, Within, number, system}
use Rattle.books.proofs.Members.{at_map, map_at}
use Rattle.books.proofs.Tables.{number_below, number_unique, length_at}

-- a word whose cells are in the table, with what its kind asks
pub record Lawful (es : List Entry) (w : Named) : Type 0 where
  pub left_in : Within es w.left
  pub right_in : Within es w.right
  pub kind_in : w.kind < 4
  pub offset_in : w.offset < 8
  pub no_offset : w.kind < 2 → w.offset ≡ 0
  pub object_right : w.kind ≡ 0 → w.right.slot ≡ 0

pub record Program (es : List Entry) (ws : List Named) : Type 0 where
  pub few : variables (blocks es) ≤ 256
  pub lawful : (w : Named) → w ∈ ws → Lawful es w

-- the constraint that a word by names is
abbrev pub constraint_of : List Entry → Named → Constraint
constraint_of es w = of_kind w.kind (number es w.left) w.offset (number es w.right)

pub decode_word : (es : List Entry) (w : Named) → variables (blocks es) ≤ 256 → Lawful es w → decode (word (first_of es) w) ≡ constraint_of es w
decode_word es w few lawful =
    let p : number es w.left < variables (blocks es) = number_below es w.left lawful.left_in in
    let q : number es w.right < variables (blocks es) = number_below es w.right lawful.right_in in
    decode_word_of w.kind (number es w.left) w.offset (number es w.right) lawful.kind_in (omega arith) (omega arith) lawful.offset_in

-- the names of one table are in the other, with as many slots
abbrev pub Grows : List Entry → List Entry → Type 0
Grows es fs = (n : List ℕ) → 0 < size_of es n → size_of fs n ≡ size_of es n

-- same name, same slot
abbrev pub SameCell : List Entry → List Entry → ℕ → ℕ → Type 0
SameCell es fs v w = (c : Cell) × Within es c × (v ≡ number es c) × (w ≡ number fs c)

pub grown : (es fs : List Entry) (c : Cell) → Grows es fs → Within es c → Within fs c
grown es fs c grows lt = omega (arith, grows c.name (omega arith))

counterpart : (V : ℕ → ℕ → Type 0) (many : System) (k o p q p' q' : ℕ) → V p p' → V q q' → Has many (of_kind k p' o q') → Counterpart V many (of_kind k p o q)
counterpart V many zero o p q p' q' l r h = (p', q', l, r, h)
counterpart V many (suc zero) o p q p' q' l r h = (p', q', l, r, h)
counterpart V many (suc (suc zero)) o p q p' q' l r h = (p', q', l, r, h)
counterpart V many (suc (suc (suc k))) o p q p' q' l r h = (p', q', l, r, h)

module _ (es fs : List Entry) (ws us : List Named) (few : Program es ws) (many : Program fs us) (grows : Grows es fs) (sub : ws ⊆ us) where
  one : (v w u : ℕ) → SameCell es fs v w → SameCell es fs v u → w ≡ u
  one v w u (c, c_in, v_c, w_c) (d, d_in, v_d, u_d) =
      let (name, slot) = number_unique es c d c_in d_in (sym v_c ∙ v_d) in
      w_c ∙ (λ i. first_of fs (name i) + slot i) ∙ sym u_d

  -- a block of the one at a cell's number: the cell is a name's own, and the block is in the other
  own_block : (o o' k : ℕ) → SameCell es fs o o' → k < length_of (blocks es) o → (k < length_of (blocks fs) o') × SameCell es fs (o + k) (o' + k)
  own_block o o' k (c, c_in, o_c, o'-c) lt =
      let in_es : k < cond (eqb c.slot 0) (size_of es c.name) 0 = rw (o_c, length_at es c c_in) at lt in
      let in_fs = length_at fs c (grown es fs c grows c_in) in
      go c.slot refl (eqb c.slot 0) (eqb-true c.slot 0) (grows c.name (omega arith)) in_es (ap (length_of (blocks fs)) o'-c ∙ in_fs)
    where
      go : (s : ℕ) → c.slot ≡ s → (b : Bool) → (b ≡ true → s ≡ 0) → size_of fs c.name ≡ size_of es c.name
          → k < cond b (size_of es c.name) 0 → length_of (blocks fs) o' ≡ cond b (size_of fs c.name) 0
          → (k < length_of (blocks fs) o') × SameCell es fs (o + k) (o' + k)
      go s same true own grew k_in e = (
        omega arith,
        (record { name = c.name; slot = k }, k_in, omega (arith, own refl, same, o_c), omega (arith, own refl, same, o'-c)),
      )
      go s same false own grew k_in e = absurd (not-suc-le-zero k_in)

  has : (c : Constraint) → Has (system es ws) c → Counterpart (SameCell es fs) (system fs us) c
  has c (i, lt, e) =
      let (w, w_in, at) = at_map (word (first_of es)) ws i lt in
      let (j, j_in, there) = map_at (word (first_of fs)) w us (sub w w_in) in
      let here = few.lawful w w_in in
      let far = many.lawful w (sub w w_in) in
      let is : constraint_of es w ≡ c = sym (decode_word es w few.few here) ∙ ap decode (sym at) ∙ e in
      rw (← is) (counterpart (SameCell es fs) (system fs us) w.kind w.offset (number es w.left) (number es w.right) (number fs w.left)
      (number fs w.right) (w.left, here.left_in, refl, refl) (w.right, here.right_in, refl, refl) (j, j_in, ap decode there ∙ decode_word fs w many.few far))

  pub embeds : Embeds (SameCell es fs) (system es ws) (system fs us)
  embeds =
      record {
        one = one;
        slot_in = λ o o' k same lt. (own_block o o' k same lt).0;
        slot = λ o o' k same lt. (own_block o o' k same lt).1;
        has = has;
      }
