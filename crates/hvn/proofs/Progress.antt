-- The numbers along the order, one position more.
use Rattle.std.proofs.Common.{◌≡◌, ℕ, ◌+◌, ◌*◌, ◌<◌, ◌≤◌, Bool, true, false, cond, ◌&&◌, ◌||◌, T, eqb, ◌≢◌, List, replicate, length, get_or, set as write, Decides, refl, sym, ap, ◌∙◌, subst, ap₂, subst₂, inl, inr, arith}
use Rattle.std.proofs.lemmas.List.{get_or-replicate, get_or_past, length-replicate, get_or-set_same, get_or-set_other}
use Rattle.std.proofs.lemmas.Bool.{cases_lt, cases_eq, cases_Bool, eqb-true, both_ways}
use Rattle.graphs.specs.Order.{Arranged}
use Rattle.graphs.specs.Matrix.{bit_at, Blank}
use Rattle.graphs.proofs.Words.{blank_bit}
use Rattle.constraints.specs.Finite.{any, lowest}
use Rattle.constraints.specs.declared.constraint.Constraint.{Constraint}
use Rattle.constraints.specs.declared.constraint.Constraint.TheVariants.{Address as address, Copy as copy, Load as load, Store as store}
use Rattle.constraints.specs.Constraint.{System, var_count, Valid, decode}
use Rattle.flows.specs.Names.{NamesBelow}
use Rattle.flows.proofs.Names.{names_small}
use Rattle.constraints.specs.Merge.{is_open, row, copy_reach, copy_edge}
use Rattle.constraints.specs.Value.{Value, Values, source, collect, elements, open_member, component_value, component, value, value_class}
use Rattle.constraints.proofs.Finite.{T_true, any_intro, any_elim, lowest_passes, lowest_first}
use Rattle.constraints.proofs.Value.{value_law}
use Rattle.constraints.proofs.Coded.{Bits}
use Rattle.layers.specs.Classes.{Numbers}
use Rattle.flows.proofs.Scans.{T-from}
use Rattle.flows.specs.Columns.{ReachBits}
use Rattle.flows.proofs.Putting.{at_row}
use Rattle.hvn.specs.Columns.{in_row, Settled, empty, lone, crowd, member, element_number, brought, open_in, FirstOf, NoneOf, SmallNumbers, RowDone, by_open, by_row}
use Rattle.hvn.proofs.Positions.{Coded, Done, opened, plain, Stage, stage_all}
use Rattle.hvn.proofs.Rowing.{row_in, row_out, in_parts, same_row}
use Rattle.hvn.proofs.Earlier.{member_is}
use Rattle.hvn.proofs.Elements.{bits_same, val_at, num_at, els_at, bits_elements}

-- ---- what is done stays done while later positions are written

module _ (val : ℕ → Value) (els : ℕ → Values) (num num' : ℕ → ℕ) (b b' : ℕ → ℕ → Bool) (j : ℕ)
    (numbers : (i : ℕ) → i ≤ j → num' i ≡ num i) (rows : (i c : ℕ) → i ≤ j → b' i c ≡ b i c) where
  settled_keep : (x : ℕ) → Settled b j x → Settled b' j x
  settled_keep x (empty dark e) = empty (λ c on. dark c (sym (rows j c (omega arith)) ∙ on)) e
  settled_keep x (lone c on only e) =
      lone c (rows j c (omega arith) ∙ on) (λ d t. only d (sym (rows j d (omega arith)) ∙ t)) e
  settled_keep x (crowd c d on on' ne f le same least e) =
      crowd c d (rows j c (omega arith) ∙ on) (rows j d (omega arith) ∙ on') ne f le
      (λ y. rows f y le ∙ same y ∙ sym (rows j y (omega arith)))
      (λ i lt q. least i lt (λ y. sym (rows i y (omega arith)) ∙ q y ∙ rows j y (omega arith))) e

  coded_keep : (t : Value) (c : ℕ) → Coded val num els b j t c → Coded val num' els b' j t c
  coded_keep t c (inl s) = inl s
  coded_keep t c (inr (i, ge, lt, s, e)) = inr (i, ge, lt, s, numbers i (omega arith) ∙ e)

  pub done_keep : Done val num els b j → Done val num' els b' j
  done_keep (opened c h e n dark) = opened c h e (numbers j (omega arith) ∙ n) (λ d on. dark d (sym (rows j d (omega arith)) ∙ on))
  done_keep (plain e bits settled) =
      plain e
      (record {
        from = λ c on. let (t, m, code) = bits.from c (sym (rows j c (omega arith)) ∙ on) in (t, m, coded_keep t c code);
        each = λ t m. let (c, code, on) = bits.each t m in (c, coded_keep t c code, rows j c (omega arith) ∙ on);
      })
      (subst (Settled b' j) (sym (numbers j (omega arith))) (settled_keep (num j) settled))

module _ (val : ℕ → Value) (els : ℕ → Values) (num num' : ℕ → ℕ) (b b' : ℕ → ℕ → Bool) (k : ℕ) (numbers : (i : ℕ) → i < k → num' i ≡ num i) where
  coded_under : (t : Value) (c : ℕ) → Coded val num els b k t c → Coded val num' els b' k t c
  coded_under t c (inl s) = inl s
  coded_under t c (inr (i, ge, lt, s, e)) = inr (i, ge, lt, s, numbers i lt ∙ e)

  bits_under : (ts : Values) (d : ℕ → Bool) → Bits (Coded val num els b k) ts d → Bits (Coded val num' els b' k) ts d
  bits_under ts d bits = record {
    from = λ c on. let (t, m, code) = bits.from c on in (t, m, coded_under t c code);
    each = λ t m. let (c, code, on) = bits.each t m in (c, coded_under t c code, on);
  }

-- ---- numbers are of columns

cond_small : (b : Bool) (x y : ℕ) → x < 2817 → y < 2817 → cond b x y < 2817
cond_small true x y hx hy = hx
cond_small false x y hx hy = hy

module _ (reach number : List ℕ) (v : ℕ) (small : SmallNumbers number) where
  pub element_small : (c : Constraint) → NamesBelow 256 c → element_number reach number v c < 2817
  element_small (address p o) h = cond_small (member reach v p) (1 + o) 0 (omega (arith, h)) (omega arith)
  element_small (copy p q) h =
      cond_small (member reach v p) _ 0 (cond_small (member reach v q) 0 (get_or number q 0) (omega arith) (small q)) (omega arith)
  element_small (load p q k) h = cond_small (member reach v p) (513 + 8 * q + k) 0 (omega (arith, h)) (omega arith)
  element_small (store p k q) h = omega arith

  brought_small : (words : List ℕ) (i c : ℕ) → ((j : ℕ) → j < i → NamesBelow 256 (decode (get_or words j 0))) → 2816 ≤ c → brought words reach number v i c ≡ false
  brought_small words i c inside ge =
      elim (cases_Bool (brought words reach number v i c)) [
        | inl on ↦
            let (j, lt, t) = any_elim i (λ j. eqb (element_number reach number v (decode (get_or words j 0))) (c + 1)) (T-from _ on) in
            let e : element_number reach number v (decode (get_or words j 0)) ≡ c + 1 = eqb-true _ _ (T_true t) in
            absurd (omega (arith, e, element_small (decode (get_or words j 0)) (inside j lt)))
        | inr off ↦ off
      ]

-- ---- the value of a variable, by its component

module _ (sys : System) (valid : Valid sys) (v : ℕ) where
  abbrev test : ℕ → Bool
  test = open_member sys (component (copy_reach sys) v)

  value_open : any (var_count sys) test ≡ true → value sys (copy_reach sys) v ≡ source (row (lowest (var_count sys) test))
  unfolding component_value
  value_open e =
      value_law sys valid v
      ∙ ap (λ b. cond b (source (row (lowest (var_count sys) test)))
      (collect (elements sys (value sys (copy_reach sys)) (component (copy_reach sys) v) (length sys.words)))) e

  value_plain : any (var_count sys) test ≡ false
      → value sys (copy_reach sys) v ≡ collect (elements sys (value sys (copy_reach sys)) (component (copy_reach sys) v) (length sys.words))
  unfolding component_value
  value_plain e =
      value_law sys valid v
      ∙ ap (λ b. cond b (source (row (lowest (var_count sys) test)))
      (collect (elements sys (value sys (copy_reach sys)) (component (copy_reach sys) v) (length sys.words)))) e

-- ---- the invariant

pub record Progress (sys : System) (order rows number : List ℕ) (k : ℕ) : Type 0 where
  pub small : SmallNumbers number
  pub blank : (y c : ℕ) → k ≤ y → y < 256 → c < 2816 → bit_at 88 rows y c ≡ false
  pub done : (j : ℕ) → j < k → Done (val_at sys order) (num_at number order) (els_at sys order) (in_row rows) j

pub numbers_zero : (number : List ℕ) (n v : ℕ) → number ≡ replicate n 0 → get_or number v 0 ≡ 0
numbers_zero number n v filled =
    let zeros : List ℕ = replicate n 0 in
    ap (λ l. get_or l v 0) filled ∙
    elim (cases_lt v n) [ inl lt ↦ get_or-replicate n v 0 0 lt | inr ge ↦ get_or_past zeros v 0 (omega (arith, length-replicate {A = ℕ} n 0)) ]

pub progress_none : (sys : System) (order rows number : List ℕ) → ((v : ℕ) → get_or number v 0 ≡ 0) → Blank 22528 rows → Progress sys order rows number 0
progress_none sys order rows number zeros clean = record {
  small = λ q. omega (arith, zeros q);
  blank = λ y c ge lt h. blank_bit 22528 88 rows y c clean (omega arith) h;
  done = λ j lt. absurd (omega arith);
}

module _ (sys : System) (valid : Valid sys) (flags : List Bool) (open_is : (v : ℕ) → get_or flags v false ≡ is_open sys v)
    (reach order : List ℕ) (reaches : ReachBits sys reach) (arranged : Arranged (copy_edge sys) order (var_count sys))
    (rows rows' number : List ℕ) (k x : ℕ) (hk : k < var_count sys) (long : get_or order k 0 < length number)
    (progress : Progress sys order rows number k)
    (others : (y c : ℕ) → c < 2816 → y ≢ k → bit_at 88 rows' y c ≡ bit_at 88 rows y c) where
  abbrev v : ℕ
  v = get_or order k 0

  abbrev new : List ℕ
  new = write number v x

  here_number : num_at new order k ≡ x
  here_number = get_or-set_same number v x 0 long

  old_number : (i : ℕ) → i < k → num_at new order i ≡ num_at number order i
  old_number i lt = get_or-set_other number v (get_or order i 0) x 0 (arranged.once i k lt hk)

  old_row : (i c : ℕ) → i < k → in_row rows' i c ≡ in_row rows i c
  old_row i c lt = same_row rows' rows i i (λ d h. others i d h (omega arith)) c

  test_is : (u : ℕ) → u < var_count sys → open_in flags reach v u ≡ open_member sys (component (copy_reach sys) v) u
  test_is u hu = ap₂ ◌&&◌ (open_is u) (member_is sys valid reach reaches v u (arranged.inside k hk) hu)

  few : var_count sys ≤ 256
  few = valid.few

  dark : (c : ℕ) → c < 2816 → bit_at 88 rows k c ≡ false
  dark c h = progress.blank k c (omega arith) (omega (arith, few)) h

  stage : Stage (val_at sys order) (num_at number order) (els_at sys order) (in_row rows) k
  stage = stage_all (val_at sys order) (num_at number order) (els_at sys order) (in_row rows) k progress.done

  done_open : (f : ℕ) → FirstOf (var_count sys) (open_in flags reach v) f → x ≡ 257 + f
      → ((c : ℕ) → c < 2816 → bit_at 88 rows' k c ≡ bit_at 88 rows k c) → Done (val_at sys order) (num_at new order) (els_at sys order) (in_row rows') k
  done_open f first e same =
      let n = var_count sys in
      let test = open_member sys (component (copy_reach sys) v) in
      let passes : T (test f) = T-from _ (sym (test_is f first.inside) ∙ first.passes) in
      let some = any_intro n test f first.inside passes in
      let le : lowest n test ≤ f = lowest_first n test f first.inside passes in
      let (low, inside) = lowest_passes n test some in
      let is : lowest n test ≡ f = elim (cases_lt (lowest n test) f) [
        | inl lt ↦ absurd (first.least (lowest n test) lt (test_is (lowest n test) inside ∙ T_true low))
        | inr ge ↦ omega arith
      ] in
      opened (256 + f) (omega (arith, first.inside, few))
      (value_open sys valid v (T_true some) ∙ ap (λ y. source (row y)) is ∙ ap source (sym (at_row f (omega (arith, first.inside, few)))))
      (here_number ∙ e ∙ omega arith)
      (λ d on. let (h, lit) = in_parts rows' k d on in both_ways _ (same d h ∙ dark d h) lit)

  done_plain : NoneOf (var_count sys) (open_in flags reach v)
      → ((c : ℕ) → c < 2816 → bit_at 88 rows' k c ≡ (bit_at 88 rows k c || brought sys.words reach number v (length sys.words) c))
      → Settled (in_row rows') k x → Done (val_at sys order) (num_at new order) (els_at sys order) (in_row rows') k
  done_plain none bits settled =
      let n = var_count sys in
      let test = open_member sys (component (copy_reach sys) v) in
      let no_open : any n test ≡ false = elim (cases_Bool (any n test)) [
        | inl on ↦ let (u, hu, t) = any_elim n test (T-from _ on) in absurd (none u hu (test_is u hu ∙ T_true t))
        | inr off ↦ off
      ] in
      let words = length sys.words in
      let same : (c : ℕ) → brought sys.words reach number v words c ≡ in_row rows' k c = λ c.
      elim (cases_lt c 2816) [
        | inl h ↦ sym (row_in rows' k c h ∙ bits c h ∙ ap (λ o. o || brought sys.words reach number v words c) (dark c h))
        | inr ge ↦ brought_small reach number v progress.small sys.words words c (λ j lt. names_small sys valid sys.words refl j lt _ refl) ge
            ∙ sym (row_out rows' k c ge)
      ] in
      let old = bits_elements sys valid reach number order (in_row rows) reaches arranged k hk stage words (omega arith) in
      plain (value_plain sys valid v no_open)
      (bits_same _ _ _ _ same
      (bits_under (val_at sys order) (els_at sys order) (num_at number order) (num_at new order) (in_row rows) (in_row rows') k old_number _ _ old))
      (subst (Settled (in_row rows') k) (sym here_number) settled)

  done_here : RowDone sys.words flags reach number (var_count sys) rows rows' k v x
      → Done (val_at sys order) (num_at new order) (els_at sys order) (in_row rows') k
  done_here (by_open f first e same) = done_open f first e same
  done_here (by_row none bits settled) = done_plain none bits settled

  pub progress_more : RowDone sys.words flags reach number (var_count sys) rows rows' k v x → x < 2817 → Progress sys order rows' new (k + 1)
  progress_more row_done x_small = record {
    small = λ q. elim (cases_eq q v) [
      | inl e ↦ subst (λ y. get_or new y 0 < 2817) (sym e) (omega (arith, get_or-set_same number v x 0 long))
      | inr ne ↦ omega (arith, get_or-set_other number v q x 0 ne, progress.small q)
    ];
    blank = λ y c ge lt h. others y c h (omega arith) ∙ progress.blank y c (omega arith) lt h;
    done = λ j lt. elim (cases_eq j k) [
      | inl e ↦ subst (Done (val_at sys order) (num_at new order) (els_at sys order) (in_row rows')) (sym e) (done_here row_done)
      | inr ne ↦ done_keep (val_at sys order) (els_at sys order) (num_at number order) (num_at new order) (in_row rows) (in_row rows') j
          (λ i le. old_number i (omega arith)) (λ i c le. old_row i c (omega arith)) (progress.done j (omega arith))
    ];
  }

pub progress_numbers : (sys : System) (order rows number : List ℕ) → Arranged (copy_edge sys) order (var_count sys)
    → Progress sys order rows number (var_count sys) → Numbers sys (value_class sys) number
progress_numbers sys order rows number arranged progress u v hu hv =
    let n = var_count sys in
    let stage = stage_all (val_at sys order) (num_at number order) (els_at sys order) (in_row rows) n progress.done in
    let (i, hi, ei) = arranged.covers u hu in
    let (j, hj, ej) = arranged.covers v hv in
    subst₂ (λ a b. Decides (value_class sys a b) (get_or number a 0 ≡ get_or number b 0)) ei ej
    ((λ e. stage.there i j hi hj (T-from _ e)), (λ e. T_true (stage.back i j hi hj e)))
