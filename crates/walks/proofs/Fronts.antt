-- The first words of a list.
use Rattle.std.proofs.Common.{◌≡◌, ℕ, ◌<◌, ◌≤◌, length, sym, refl, ap, ◌∙◌, arith}
use Rattle.std.proofs.lemmas.List.{get_or-take, length-take}
use Rattle.constraints.specs.Rows.{Rows, pairs}
use Rattle.constraints.specs.Constraint.{System, Valid, var_count, decode, constraint, left_of, Has, Meets, Solves, first}
use Rattle.constraints.specs.declared.constraint.Constraint.{Constraint}
use Rattle.constraints.specs.declared.constraint.Constraint.TheVariants.{Address as address, Copy as copy, Load as load, Store as store}
use Rattle.constraints.proofs.Least.{RightBelow, left_in, right_in}
use Rattle.walks.specs.Rules.{Below}

same_word : (sys : System) (n j : ℕ) → j < n → constraint (first n sys) j ≡ constraint sys j
same_word sys n j lt = ap decode (get_or-take n sys.words j 0 lt)

pub met_first : (sys : System) (n : ℕ) (R : Rows) → Solves (first n sys) R → (j : ℕ) → j < n → j < length sys.words
    → Meets sys.blocks (constraint sys j) (pairs R)
met_first sys n R solves j lt j_in =
    solves (constraint sys j) (j, omega (arith, length-take n sys.words), same_word sys n j lt)

pub solves_first : (sys : System) (n : ℕ) (R : Rows) → ((j : ℕ) → j < n → j < length sys.words → Meets sys.blocks (constraint sys j) (pairs R))
    → Solves (first n sys) R
solves_first sys n R met c (j, lt, e) =
    let short = length-take n sys.words in
    let j_in : j < n = omega arith in
    let is : constraint sys j ≡ c = sym (same_word sys n j j_in) ∙ e in
    rw is at (met j j_in (omega arith))

below_from : (n : ℕ) (c : Constraint) → left_of c < n → RightBelow n c → Below n c
below_from n (address p o) l r = (l, r)
below_from n (copy p q) l r = (l, r)
below_from n (load p q k) l r = (l, r.0)
below_from n (store p k q) l r = (l, r.0)

below_more : (n m : ℕ) (c : Constraint) → n ≤ m → Below n c → Below m c
below_more n m (address p o) le (l, r) = (omega arith, omega arith)
below_more n m (copy p q) le (l, r) = (omega arith, omega arith)
below_more n m (load p q k) le (l, r) = (omega arith, omega arith)
below_more n m (store p k q) le (l, r) = (omega arith, omega arith)

-- the variables of a word are among the 256
pub word_below : (sys : System) → Valid sys → (j : ℕ) → j < length sys.words → Below 256 (constraint sys j)
word_below sys valid j j_in =
    let c = constraint sys j in
    let has : Has sys c = (j, j_in, refl) in
    below_more (var_count sys) 256 c valid.few (below_from (var_count sys) c (left_in sys valid c has) (right_in sys valid c has))
