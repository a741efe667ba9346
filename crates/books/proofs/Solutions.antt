-- The smallest solution of a book's list, by names.
use Rattle.std.proofs.Common.{◌≡◌, ℕ, zero, suc, ◌+◌, ◌<◌, Bool, true, ◌&&◌, T, ltb, List, get_or, sym, refl, ap, ◌∙◌, arith}
use Rattle.std.proofs.lemmas.Bool.{ltb-true, lt-ltb}
use Rattle.constraints.specs.Rows.{Relation}
use Rattle.constraints.specs.Constraint.{of_kind, decode, Meets, Closed, length_of}
use Rattle.constraints.specs.Least.{least}
use Rattle.constraints.proofs.Finite.{T_true, and_intro, and_left, and_right, any_intro, any_elim}
use Rattle.constraints.proofs.Least.{least_within, least_solves}
use Rattle.units.specs.Words.{Cell, word}
use Rattle.declarations.specs.Declarations.{Entry, size_of}
use Rattle.books.specs.Tables.{first_of, Within, number, slot, blocks}
use Rattle.books.specs.Books.{Book, table, words, list_of, row}
use Rattle.books.specs.Replies.{has_object}
use Rattle.books.specs.Solutions.{NamedRows, Keeps, SolutionOf, PointsInEverySolution, AliasInEverySolution, TargetsInEverySolution}
use Rattle.books.proofs.Members.{at_map, map_at}
use Rattle.books.proofs.Tables.{number_below, number_unique, length_at}
use Rattle.books.proofs.Embedding.{constraint_of, decode_word}
use Rattle.books.proofs.Lists.{book_program, table_once}
use Rattle.books.proofs.Targets.{listed_is, is_listed}

true-T : {b : Bool} → b ≡ true → T b
true-T e = rw e tt

module _ (es : List Entry) where
  same_cell : (c d : Cell) → Within es c → Within es d → number es c ≡ number es d → c ≡ d
  same_cell c d c_in d_in e = let (n, s) = number_unique es c d c_in d_in e in λ i. record { name = n i; slot = s i }

  same_name : (m n : List ℕ) → Within es (slot m 0) → Within es (slot n 0) → number es (slot m 0) ≡ number es (slot n 0) → m ≡ n
  same_name m n m_in n_in e = ap (λ (x : Cell). x.name) (same_cell (slot m 0) (slot n 0) m_in n_in e)

  -- a name's object starts its block
  own_length : (n : List ℕ) → 0 < size_of es n → length_of (blocks es) (number es (slot n 0)) ≡ size_of es n
  own_length n lt = length_at es (slot n 0) lt

  next_slot : (n : List ℕ) (k : ℕ) → number es (slot n 0) + k ≡ number es (slot n k)
  next_slot n k = omega arith

  module _ (R : NamedRows) where
    -- a pair of numbers that R has by names
    abbrev ByName : Relation
    ByName v x = (d : Cell) × (m : List ℕ) × Within es d × (0 < size_of es m) × (v ≡ number es d) × (x ≡ number es (slot m 0)) × T (R d m)

    by_name_closed : (kind : ℕ) (p : Cell) (k : ℕ) (q : Cell) → Within es p → Within es q → (kind ≡ 0 → q.slot ≡ 0)
        → Keeps (size_of es) kind p k q R → Meets (blocks es) (of_kind kind (number es p) k (number es q)) ByName
    by_name_closed zero p k q p_in q_in own keeps = (p, q.name, p_in, omega arith, refl, omega (arith, own refl), keeps)
    by_name_closed (suc zero) p k q p_in q_in own keeps = λ o (d, m, d_in, m_in, q_d, o_m, t).
        let same : d ≡ q = same_cell d q d_in q_in (sym q_d) in
        (p, m, p_in, m_in, refl, o_m, keeps m (rw same at t))
    by_name_closed (suc (suc zero)) p k q p_in q_in own keeps = λ o x (d, m, d_in, m_in, q_d, o_m, t) lt (e, l, e_in, l_in, at_e, x_l, g).
        let same : d ≡ q = same_cell d q d_in q_in (sym q_d) in
        let k_in : k < size_of es m = rw (o_m, own_length m m_in) at lt in
        let there : e ≡ slot m k = same_cell e (slot m k) e_in k_in (omega arith) in
        (p, l, p_in, l_in, refl, x_l, keeps m l (rw same at t) k_in (rw there at g))
    by_name_closed (suc (suc (suc n))) p k q p_in q_in own keeps = λ o x (d, m, d_in, m_in, p_d, o_m, t) lt (e, l, e_in, l_in, at_e, x_l, g).
        let same : d ≡ p = same_cell d p d_in p_in (sym p_d) in
        let k_in : k < size_of es m = rw (o_m, own_length m m_in) at lt in
        let there : e ≡ q = same_cell e q e_in q_in (sym at_e) in
        (slot m k, l, k_in, l_in, omega arith, x_l, keeps m l (rw same at t) k_in (rw there at g))

  -- rows by number as rows by names
  abbrev by_names : (ℕ → ℕ → Bool) → NamedRows
  by_names Q c n = ltb c.slot (size_of es c.name) && (ltb 0 (size_of es n) && Q (number es c) (number es (slot n 0)))

  has_row : (Q : ℕ → ℕ → Bool) (c : Cell) (n : List ℕ) → T (by_names Q c n)
      → Within es c × (0 < size_of es n) × T (Q (number es c) (number es (slot n 0)))
  has_row Q c n t =
      let named = and_right (ltb c.slot (size_of es c.name)) (ltb 0 (size_of es n) && Q (number es c) (number es (slot n 0))) t in (
        ltb-true c.slot (size_of es c.name) (T_true (and_left (ltb c.slot (size_of es c.name)) _ t)),
        ltb-true 0 (size_of es n) (T_true (and_left (ltb 0 (size_of es n)) (Q (number es c) (number es (slot n 0))) named)),
        and_right (ltb 0 (size_of es n)) (Q (number es c) (number es (slot n 0))) named,
      )

  row_has : (Q : ℕ → ℕ → Bool) (c : Cell) (n : List ℕ) → Within es c → 0 < size_of es n → T (Q (number es c) (number es (slot n 0))) → T (by_names Q c n)
  row_has Q c n c_in lt t =
      and_intro (ltb c.slot (size_of es c.name)) _ (true-T (lt-ltb c.slot (size_of es c.name) c_in))
      (and_intro (ltb 0 (size_of es n)) (Q (number es c) (number es (slot n 0))) (true-T (lt-ltb 0 (size_of es n) lt)) t)

  names_keep : (Q : ℕ → ℕ → Bool) (kind : ℕ) (p : Cell) (k : ℕ) (q : Cell) → Within es p → Within es q → (kind ≡ 0 → q.slot ≡ 0)
      → Meets (blocks es) (of_kind kind (number es p) k (number es q)) (λ v x. T (Q v x)) → Keeps (size_of es) kind p k q (by_names Q)
  names_keep Q zero p k q p_in q_in own meets =
      let same : number es q ≡ number es (slot q.name 0) = omega (arith, own refl) in
      row_has Q p q.name p_in (omega arith) (rw same at meets)
  names_keep Q (suc zero) p k q p_in q_in own meets = λ o t.
      let (_, o_in, g) = has_row Q q o t in row_has Q p o p_in o_in (meets (number es (slot o 0)) g)
  names_keep Q (suc (suc zero)) p k q p_in q_in own meets = λ o x t k_in s.
      let (_, o_in, g) = has_row Q q o t in
      let (_, x_in, h) = has_row Q (slot o k) x s in
      row_has Q p x p_in x_in (meets (number es (slot o 0)) (number es (slot x 0)) g (rw (own_length o o_in) k_in) (rw (next_slot o k) h))
  names_keep Q (suc (suc (suc n))) p k q p_in q_in own meets = λ o x t k_in s.
      let (_, o_in, g) = has_row Q p o t in
      let (_, x_in, h) = has_row Q q x s in
      row_has Q (slot o k) x k_in x_in (rw (next_slot o k) at (meets (number es (slot o 0)) (number es (slot x 0)) g (rw (own_length o o_in) k_in) h))

module _ (texts : List (List ℕ)) (book : Book texts) where
  -- every solution by names holds the pairs of the smallest solution
  in_each : (R : NamedRows) → SolutionOf texts R → Closed (list_of texts) (ByName (table texts) R)
  in_each R solution c (i, lt, e) =
      let (w, w_in, at) = at_map (word (first_of (table texts))) (words texts) i lt in
      let lawful = (book_program texts book).lawful w w_in in
      let is : constraint_of (table texts) w ≡ c = sym (decode_word (table texts) w book.few lawful) ∙ ap decode (sym at) ∙ e in
      rw (← is) (by_name_closed (table texts) R w.kind w.left w.offset w.right lawful.left_in lawful.right_in lawful.object_right
      (solution.solves w w_in))

  -- a pair of the smallest solution is in every solution, under the object's name
  each_has : (R : NamedRows) → SolutionOf texts R → (c : Cell) → Within (table texts) c → (o : ℕ) → T (row texts c o)
      → (m : List ℕ) × (0 < size_of (table texts) m) × (o ≡ number (table texts) (slot m 0)) × T (R c m)
  each_has R solution c c_in o t =
      let es = table texts in
      let (d, m, d_in, m_in, c_d, o_m, g) = least_within (list_of texts) (ByName es R) (in_each R solution) (number es c) o t in
      let cell : d ≡ c = same_cell es d c d_in c_in (sym c_d) in
      (m, m_in, o_m, rw cell at g)

  abbrev smallest : NamedRows
  smallest = by_names (table texts) (least (list_of texts))

  -- the smallest solution is one by names
  smallest_solves : SolutionOf texts smallest
  smallest_solves =
      record {
        typed = λ c n t. let (c_in, n_in, _) = has_row (table texts) (least (list_of texts)) c n t in (c_in, n_in);
        solves = λ w w_in.
            let lawful = (book_program texts book).lawful w w_in in
            let (i, lt, at) = map_at (word (first_of (table texts))) w (words texts) w_in in
            let is : decode (get_or (list_of texts).words i 0) ≡ constraint_of (table texts) w = ap decode at ∙ decode_word (table texts) w book.few lawful in
            names_keep (table texts) (least (list_of texts)) w.kind w.left w.offset w.right lawful.left_in lawful.right_in
            lawful.object_right (least_solves (list_of texts) (constraint_of (table texts) w) (i, lt, is));
      }

  smallest_has : (c : Cell) (n : List ℕ) → T (smallest c n) → T (has_object texts c n)
  smallest_has c n t = let (_, _, g) = has_row (table texts) (least (list_of texts)) c n t in g

pub points_in_every : PointsInEverySolution
points_in_every texts book c n c_in n_in = (
  λ t R solution.
      let (m, m_in, o_m, g) = each_has texts book R solution c c_in (number (table texts) (slot n 0)) t in
      let name : m ≡ n = same_name (table texts) m n m_in n_in (sym o_m) in
      rw name at g,
  λ all. smallest_has texts book c n (all (smallest texts book) (smallest_solves texts book)),
)

pub alias_in_every : AliasInEverySolution
alias_in_every texts book c d c_in d_in = (
  λ t R solution.
      let (o, _, both) = any_elim 256 (λ o. row texts c o && row texts d o) t in
      let (m, m_in, o_m, g) = each_has texts book R solution c c_in o (and_left (row texts c o) (row texts d o) both) in
      let (n, n_in, o_n, h) = each_has texts book R solution d d_in o (and_right (row texts c o) (row texts d o) both) in
      let name : n ≡ m = same_name (table texts) n m n_in m_in (sym o_n ∙ o_m) in
      (m, g, rw name at h),
  λ all.
      let (n, left, right) = all (smallest texts book) (smallest_solves texts book) in
      let (_, n_in, _) = has_row (table texts) (least (list_of texts)) c n left in
      let o = number (table texts) (slot n 0) in
      any_intro 256 (λ o. row texts c o && row texts d o) o (omega (arith, number_below (table texts) (slot n 0) n_in, book.few))
      (and_intro (row texts c o) (row texts d o) (smallest_has texts book c n left) (smallest_has texts book d n right)),
)

pub targets_in_every : TargetsInEverySolution
targets_in_every texts book c n c_in = (
  λ listed.
      let (size, t) = listed_is (table texts) (row texts c) n (table_once texts) listed in
      (size, (points_in_every texts book c n c_in (omega arith)).0 t),
  λ (size, all). is_listed (table texts) (row texts c) n size ((points_in_every texts book c n c_in (omega arith)).1 all),
)
