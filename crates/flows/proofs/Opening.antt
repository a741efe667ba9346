-- Flags of open variables, word by word.
use Rattle.std.proofs.Common.{◌≡◌, ℕ, ◌+◌, ◌-◌, ◌<◌, ◌≤◌, Bool, true, false, ◌&&◌, ◌||◌, T, ltb, leb, List, ◌++◌, take, drop, replicate, length, get_or, refl, ap, ◌∙◌, inl, inr, add-one, arith, subst, sym}
use borrow.Rule.Slice.PartMut.{put_mid}
use Rattle.std.proofs.lemmas.List.{get_or-replicate, get_or_past, length-replicate, length-take-le, get_or_append_left, get_or-append_right, get_or-take, get_or-drop}
use Rattle.std.proofs.lemmas.Bool.{cases_lt, le-leb, lt-leb, lt-ltb, le-ltb, leb-true, ltb-true}
use Rattle.constraints.specs.Finite.{any}
use Rattle.constraints.specs.declared.constraint.Constraint.{Constraint}
use Rattle.constraints.specs.Constraint.{System, var_count, variables, length_of, decode, taken}
use Rattle.constraints.specs.declared.constraint.Constraint.TheVariants.{Address as address, Copy as copy, Load as load, Store as store}
use Rattle.constraints.specs.Merge.{is_open, in_block}
use Rattle.constraints.proofs.Finite.{T_true, and_intro, and_left, and_right, any_intro, any_elim}
use Rattle.constraints.proofs.Least.{block_below, taken_intro, taken_elim}
use Rattle.flows.specs.Opens.{opens}

pub bool_same : (a b : Bool) → (T a → T b) → (T b → T a) → a ≡ b
bool_same true true there back = refl
bool_same true false there back = absurd (there tt)
bool_same false true there back = absurd (back tt)
bool_same false false there back = refl

pub or_none : (a : Bool) → a ≡ (a || false)
or_none true = refl
or_none false = refl

pub or_assoc : (a b c : Bool) → ((a || b) || c) ≡ (a || (b || c))
or_assoc true b c = refl
or_assoc false b c = refl

or_swap : (a b : Bool) → (a || b) ≡ (b || a)
or_swap true true = refl
or_swap true false = refl
or_swap false true = refl
or_swap false false = refl

pub any_more : (i : ℕ) (f : ℕ → Bool) → any (i + 1) f ≡ (any i f || f i)
unfolding any
any_more i f = rw add-one (or_swap (f i) (any i f))

pub any_zero : (f : ℕ → Bool) → false ≡ any 0 f
unfolding any
any_zero f = refl

-- flags that are all b
pub flag_replicate : (n v : ℕ) (b : Bool) → get_or (replicate n b) v b ≡ b
flag_replicate n v b =
    elim (cases_lt v n) [ inl lt ↦ get_or-replicate n v b b lt | inr ge ↦ get_or_past (replicate n b) v b (omega (arith, length-replicate n b)) ]

or_true : (a : Bool) → true ≡ (a || true)
or_true true = refl
or_true false = refl

-- n flags from o on are set
pub flags_filled : (flags ys : List Bool) (o n k : ℕ) → o + n ≤ length flags → k ≡ n → ys ≡ replicate n true
    → (v : ℕ) → get_or (put_mid o k flags ys) v false ≡ (get_or flags v false || (leb o v && ltb v (o + n)))
flags_filled flags ys o n k inside same filled v =
    let long : length ys ≡ n = ap length filled ∙ length-replicate n true in
    let front = length-take-le o flags (omega arith) in
    let rest = drop k (drop o flags) in
    elim (cases_lt v o) [
      | inl lt ↦ rw (lt-leb o v lt)
          (get_or_append_left (take o flags) (ys ++ rest) false v (omega (arith, front)) ∙ get_or-take o flags v false lt ∙ or_none (get_or flags v false))
      | inr ge ↦ elim (cases_lt v (o + n)) [
        | inl inner ↦ rw (lt-ltb v (o + n) inner, le-leb o v ge)
            (get_or-append_right (take o flags) (ys ++ rest) o v false front ge ∙ get_or_append_left ys rest false (v - o) (omega arith)
            ∙ ap (λ zs. get_or zs (v - o) false) filled ∙ get_or-replicate n (v - o) true false (omega arith) ∙ or_true (get_or flags v false))
        | inr past ↦ rw (le-ltb v (o + n) past, le-leb o v ge)
            (get_or-append_right (take o flags) (ys ++ rest) o v false front ge ∙ get_or-append_right ys rest n (v - o) false long (omega arith)
            ∙ get_or-drop k (drop o flags) (v - o - n) false ∙ get_or-drop o flags (k + (v - o - n)) false
            ∙ ap (λ j. get_or flags j false) (omega arith) ∙ or_none (get_or flags v false))
      ]
    ]

pub block_end : (blocks : List ℕ) (o : ℕ) → o < variables blocks → o + length_of blocks o ≤ variables blocks
block_end blocks o h =
    elim (cases_lt 0 (length_of blocks o)) [
      | inl some ↦
          let last : length_of blocks o - 1 < length_of blocks o = omega arith in
          omega (arith, block_below blocks o (length_of blocks o - 1) last)
      | inr none ↦ omega arith
    ]

-- a constraint that opens v takes the address of its block
opens_elim : (sys : System) (v : ℕ) (c : Constraint) → T (opens sys.blocks c v) → (p o : ℕ) × (c ≡ address p o) × T (in_block sys o v)
opens_elim sys v (address p o) t = (p, o, refl, t)
opens_elim sys v (copy p q) t = absurd t
opens_elim sys v (load p q k) t = absurd t
opens_elim sys v (store p k q) t = absurd t

pub opens_at : (blocks : List ℕ) (c : Constraint) (p o a v : ℕ) → c ≡ address p o → a ≡ o
    → (leb a v && ltb v (a + length_of blocks a)) ≡ opens blocks c v
opens_at blocks c p o a v is same = ap (λ x. leb x v && ltb v (x + length_of blocks x)) same ∙ ap (λ k. opens blocks k v) (sym is)

-- the words open exactly the open variables
module _ (sys : System) (v : ℕ) where
  opened_there : T (any (length sys.words) (λ i. opens sys.blocks (decode (get_or sys.words i 0)) v)) → T (is_open sys v)
  unfolding is_open
  opened_there t =
      let (i, lt, u) = any_elim (length sys.words) (λ j. opens sys.blocks (decode (get_or sys.words j 0)) v) t in
      let (p, o, named, inside) = opens_elim sys v (decode (get_or sys.words i 0)) u in
      let low : o ≤ v = leb-true o v (T_true (and_left (leb o v) (ltb v (o + length_of sys.blocks o)) inside)) in
      let high : v < o + length_of sys.blocks o = ltb-true v _ (T_true (and_right (leb o v) (ltb v (o + length_of sys.blocks o)) inside)) in
      let some : 0 < length_of sys.blocks o = omega arith in
      any_intro (var_count sys) (λ a. taken sys a && in_block sys a v) o (omega (arith, block_below sys.blocks o 0 some))
      (and_intro (taken sys o) (in_block sys o v) (taken_intro sys p o (i, lt, named)) inside)

  opened_back : T (is_open sys v) → T (any (length sys.words) (λ i. opens sys.blocks (decode (get_or sys.words i 0)) v))
  unfolding is_open
  opened_back t =
      let (o, lt, u) = any_elim (var_count sys) (λ a. taken sys a && in_block sys a v) t in
      let inside : T (in_block sys o v) = and_right (taken sys o) (in_block sys o v) u in
      let (p, (i, i_in, e)) = taken_elim sys o (and_left (taken sys o) (in_block sys o v) u) in
      any_intro (length sys.words) (λ j. opens sys.blocks (decode (get_or sys.words j 0)) v) i i_in
      (subst (λ c. T (opens sys.blocks c v)) (sym e) inside)

  pub opened_is : any (length sys.words) (λ i. opens sys.blocks (decode (get_or sys.words i 0)) v) ≡ is_open sys v
  opened_is = bool_same _ _ opened_there opened_back
