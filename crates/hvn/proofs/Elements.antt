-- The numbers that words bring are those of the elements of a component's set.
use Rattle.std.proofs.Common.{◌≡◌, ℕ, zero, suc, ◌+◌, ◌*◌, ◌<◌, ◌≤◌, Bool, true, false, cond, not, ◌&&◌, ◌||◌, eqb, ◌⊎◌, List, length, get_or, sym, refl, ap, ◌∙◌, subst, subst₂, inl, inr, arith}
use Rattle.std.proofs.lemmas.Bool.{eqb-true, eq-eqb, ne_eqb, or_cases, or_left, or_right, both_ways}
use Rattle.graphs.specs.Order.{Arranged}
use Rattle.constraints.specs.Finite.{any}
use Rattle.constraints.specs.Constraint.{System, var_count, Valid, Has, constraint, decode, of_kind, kind, left, offset, right}
use Rattle.constraints.specs.declared.constraint.Constraint.TheVariants.{Copy as copy}
use Rattle.constraints.specs.Merge.{object, loaded, copy_reach, copy_edge}
use Rattle.constraints.specs.Value.{Value, Values, nothing, source, set, add, put, element, elements, component, value}
use Rattle.constraints.proofs.Value.{same_value_refl, same_value_trans}
use Rattle.constraints.proofs.Coded.{Bits}
use Rattle.flows.specs.Columns.{ReachBits}
use Rattle.flows.proofs.Putting.{at_object, at_loaded}
use Rattle.hvn.specs.Columns.{element_number, brought}
use Rattle.hvn.proofs.Positions.{Coded, Told, void, sourced, grouped, Stage, group_set, nothing_set}
use Rattle.hvn.proofs.Earlier.{member_is, earlier}

-- ---- bits of a set, one element more

module _ (Code : Value → ℕ → Type 0) where
  pub bits_same : (ts : Values) (b d : ℕ → Bool) → ((c : ℕ) → b c ≡ d c) → Bits Code ts b → Bits Code ts d
  bits_same ts b d same bits = record {
    from = λ c on. bits.from c (same c ∙ on);
    each = λ t m. let (c, code, on) = bits.each t m in (c, code, sym (same c) ∙ on);
  }

  bits_add : (t : Value) (ts : Values) (b : ℕ → Bool) (x c : ℕ) → x ≡ c + 1 → Code t c → Bits Code ts b → Bits Code (add t ts) (λ d. eqb x (d + 1) || b d)
  bits_add t ts b x c e code bits = record {
    from = λ d on. elim (or_cases (eqb x (d + 1)) (b d) on) [
      | inl new ↦
          let f : x ≡ d + 1 = eqb-true x (d + 1) new in
          let same : c ≡ d = omega arith in
          (t, inl refl, subst (Code t) same code)
      | inr old ↦ let (u, m, code') = bits.from d old in (u, inr m, code')
    ];
    each = λ u m. elim m [
      | inl f ↦ (c, subst (λ y. Code y c) (sym f) code, or_left (eqb x (c + 1)) (b c) (eq-eqb x (c + 1) e))
      | inr n ↦ let (d, code', on) = bits.each u n in (d, code', or_right (eqb x (d + 1)) (b d) on)
    ];
  }

  -- the number x says which value t is
  abbrev pub Says : Value → ℕ → Type 0
  Says t x = ((x ≡ 0) × (t ≡ nothing)) ⊎ ((c : ℕ) × (x ≡ c + 1) × Code t c)

  module _ (no_code : (c : ℕ) → Code nothing c → ⊥) where
    pub bits_put : (t : Value) (ts : Values) (b : ℕ → Bool) (x : ℕ) → Says t x → Bits Code ts b → Bits Code (put t ts) (λ d. eqb x (d + 1) || b d)
    bits_put nothing ts b x (inl (e, f)) bits =
        bits_same ts b (λ d. eqb x (d + 1) || b d) (λ d. ap (λ y. y || b d) (sym (ne_eqb x (d + 1) (λ g. omega arith)))) bits
    bits_put nothing ts b x (inr (c, e, code)) bits = absurd (no_code c code)
    bits_put (source s) ts b x (inl (e, f)) bits = let z : ◌≡◌ {A = ℕ} 0 1 = cc in absurd (omega arith)
    bits_put (source s) ts b x (inr (c, e, code)) bits = bits_add (source s) ts b x c e code bits
    bits_put (set us) ts b x (inl (e, f)) bits = let z : ◌≡◌ {A = ℕ} 0 1 = cc in absurd (omega arith)
    bits_put (set us) ts b x (inr (c, e, code)) bits = bits_add (set us) ts b x c e code bits

  says_cond : (a b : Bool) (t : Value) (x : ℕ) → b ≡ a → Says t x → Says (cond a t nothing) (cond b x 0)
  says_cond true b t x e fact = subst (λ d. Says t (cond d x 0)) (sym e) fact
  says_cond false b t x e fact = subst (λ d. Says nothing (cond d x 0)) (sym e) (inl (refl, refl))

  says_copy : (a b c d : Bool) (t : Value) (x : ℕ) → b ≡ a → d ≡ c → (a ≡ true → c ≡ false → Says t x) → Says (cond (a && not c) t nothing) (cond b (cond d 0 x) 0)
  says_copy true b true d t x e f fact = subst₂ (λ y z. Says nothing (cond y (cond z 0 x) 0)) (sym e) (sym f) (inl (refl, refl))
  says_copy true b false d t x e f fact = subst₂ (λ y z. Says t (cond y (cond z 0 x) 0)) (sym e) (sym f) (fact refl refl)
  says_copy false b c d t x e f fact = subst (λ y. Says nothing (cond y (cond d 0 x) 0)) (sym e) (inl (refl, refl))

-- ---- the elements of a component

abbrev pub val_at : System → List ℕ → ℕ → Value
val_at sys order j = value sys (copy_reach sys) (get_or order j 0)

abbrev pub num_at : List ℕ → List ℕ → ℕ → ℕ
num_at number order j = get_or number (get_or order j 0) 0

abbrev pub els_at : System → List ℕ → ℕ → Values
els_at sys order j = elements sys (value sys (copy_reach sys)) (component (copy_reach sys) (get_or order j 0)) (length sys.words)

module _ (sys : System) (valid : Valid sys) (reach number order : List ℕ) (b : ℕ → ℕ → Bool) (bits : ReachBits sys reach)
    (arranged : Arranged (copy_edge sys) order (var_count sys)) (k : ℕ) (hk : k < var_count sys)
    (stage : Stage (val_at sys order) (num_at number order) (els_at sys order) b k) where
  abbrev Code : Value → ℕ → Type 0
  Code = Coded (val_at sys order) (num_at number order) (els_at sys order) b k

  abbrev v : ℕ
  v = get_or order k 0

  no_code : (c : ℕ) → Code nothing c → ⊥
  no_code c (inl (h, e)) = let z : ◌≡◌ {A = ℕ} 0 1 = cc in omega arith
  no_code c (inr (j, ge, lt, s, e)) =
      let (g, is_set) = group_set (val_at sys order) (num_at number order) (els_at sys order) b j c (stage.told j lt) e ge in
      nothing_set (els_at sys order g) (same_value_trans nothing (val_at sys order j) (set (els_at sys order g)) s is_set)

  says_variable : (j : ℕ) → j < k → Told (val_at sys order) (num_at number order) (els_at sys order) b j → Says Code (val_at sys order j) (num_at number order j)
  says_variable j lt (void n e) = inl (n, e)
  says_variable j lt (sourced c h n e) = inr (c, n, inl (h, e))
  says_variable j lt (grouped g le n s lead) =
      let e : num_at number order j ≡ 2560 + g + 1 = omega arith in
      inr (2560 + g, e, inr (j, omega arith, lt, same_value_refl (val_at sys order j), e))

  says_copied : (p q : ℕ) → p < var_count sys → q < var_count sys → Has sys (copy p q)
      → component (copy_reach sys) v p ≡ true → component (copy_reach sys) v q ≡ false → Says Code (value sys (copy_reach sys) q) (get_or number q 0)
  says_copied p q hp hq has p_in q_out =
      let (j, lt, is) = earlier sys valid order arranged k p q hk hp hq has p_in q_out in
      subst (λ y. Says Code (value sys (copy_reach sys) y) (get_or number y 0)) is (says_variable j lt (stage.told j lt))

  says_kind : (m p o q : ℕ) → p < var_count sys → q < var_count sys → o < 8 → Has sys (of_kind m p o q)
      → Says Code (element (value sys (copy_reach sys)) (component (copy_reach sys) v) (of_kind m p o q)) (element_number reach number v (of_kind m p o q))
  says_kind zero p o q hp hq ho has =
      let small : q < 256 = omega (arith, valid.few) in
      says_cond Code _ _ (source (object q)) (1 + q) (member_is sys valid reach bits v p (arranged.inside k hk) hp)
      (inr (q, omega arith, inl (omega arith, ap source (sym (at_object q small)))))
  says_kind (suc zero) p o q hp hq ho has =
      says_copy Code _ _ _ _ (value sys (copy_reach sys) q) (get_or number q 0)
      (member_is sys valid reach bits v p (arranged.inside k hk) hp) (member_is sys valid reach bits v q (arranged.inside k hk) hq)
      (says_copied p q hp hq has)
  says_kind (suc (suc zero)) p o q hp hq ho has =
      let small : q < 256 = omega (arith, valid.few) in
      says_cond Code _ _ (source (loaded q o)) (513 + 8 * q + o) (member_is sys valid reach bits v p (arranged.inside k hk) hp)
      (inr (512 + 8 * q + o, omega arith, inl (omega arith, ap source (sym (at_loaded q o small ho)))))
  says_kind (suc (suc (suc m))) p o q hp hq ho has = inl (refl, refl)

  says_element : (i : ℕ) → i < length sys.words
      → Says Code (element (value sys (copy_reach sys)) (component (copy_reach sys) v) (constraint sys i)) (element_number reach number v (constraint sys i))
  unfolding decode
  says_element i lt =
      let w = get_or sys.words i 0 in
      let formed = valid.formed i lt in
      says_kind (kind w) (left w) (offset w) (right w) formed.left_in formed.right_in (omega arith) (i, lt, refl)

  pub bits_elements : (i : ℕ) → i ≤ length sys.words
      → Bits Code (elements sys (value sys (copy_reach sys)) (component (copy_reach sys) v) i) (brought sys.words reach number v i)
  unfolding elements any
  bits_elements zero le = record { from = λ c on. absurd (both_ways false refl on); each = λ t m. absurd m }
  bits_elements (suc i) le =
      bits_put Code no_code _ _ _ _ (says_element i (omega arith)) (bits_elements i (omega arith))
