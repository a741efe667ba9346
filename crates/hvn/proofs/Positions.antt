-- Equal numbers are equal values, position by position.
use Rattle.std.proofs.Common.{◌≡◌, ℕ, zero, suc, ◌+◌, ◌-◌, ◌*◌, ◌/◌, ◌%◌, ◌<◌, ◌≤◌, Bool, true, T, ◌≢◌, ◌⊎◌, sym, refl, ap, ◌∙◌, subst, subst₂, inl, inr, arith, eqb→eq}
use Rattle.std.proofs.lemmas.Bool.{cases_lt, cases_eq, cases_Bool, cases_order}
use Rattle.constraints.specs.Merge.{Source, same_source}
use Rattle.constraints.specs.Value.{Value, Values, nothing, source, set, none, add, each_value, same_value, each_in, collect}
use Rattle.constraints.proofs.Finite.{T_true, and_left, and_right}
use Rattle.constraints.proofs.Value.{Among, each_element, same_value_refl, same_value_sym, same_value_trans}
use Rattle.constraints.proofs.Collect.{Alike, alike_collect}
use Rattle.constraints.proofs.Coded.{Bits, rows_alike, alike_there, alike_back, no_bit, one_bit}
use Rattle.flows.proofs.Opening.{bool_same}
use Rattle.flows.proofs.Scans.{T-from}
use Rattle.flows.specs.Columns.{source_at}
use Rattle.flows.proofs.Putting.{column_object, column_row, column_loaded}
use Rattle.flows.proofs.Putting.{at_object, at_row, at_loaded}
use Rattle.hvn.specs.Columns.{SameRow, Settled, empty, lone, crowd}

-- ---- sources have a column each

row_column : (v d : ℕ) → v < 256 → T (same_source (source_at (256 + v)) (source_at d)) → 256 + v ≡ d
row_column v d h t = eqb→eq (256 + v) d (subst T (ap (λ s. same_source s (source_at d)) (at_row v h) ∙ column_row v d h) t)

loaded_column : (q k d : ℕ) → q < 256 → k < 8 → T (same_source (source_at (512 + 8 * q + k)) (source_at d)) → 512 + 8 * q + k ≡ d
loaded_column q k d hq hk t =
    eqb→eq (512 + 8 * q + k) d (subst T (ap (λ s. same_source s (source_at d)) (at_loaded q k hq hk) ∙ column_loaded q k d hq hk) t)

pub source_column : (c d : ℕ) → c < 2560 → T (same_source (source_at c) (source_at d)) → c ≡ d
source_column c d h t =
    elim (cases_lt c 256) [
      | inl low ↦ eqb→eq c d (subst T (ap (λ s. same_source s (source_at d)) (at_object c low) ∙ column_object c d low) t)
      | inr high ↦ elim (cases_lt c 512) [
        | inl mid ↦
            let e : 256 + (c - 256) ≡ c = omega arith in
            sym e ∙ row_column (c - 256) d (omega arith) (subst (λ x. T (same_source (source_at x) (source_at d))) (sym e) t)
        | inr top ↦
            let e : 512 + 8 * ((c - 512) / 8) + (c - 512) % 8 ≡ c = omega arith in
            sym e ∙ loaded_column ((c - 512) / 8) ((c - 512) % 8) d (omega arith) (omega arith)
            (subst (λ x. T (same_source (source_at x) (source_at d))) (sym e) t)
      ]
    ]

-- ---- values of different shape differ

source_set : (s : Source) (ts : Values) → T (same_value (source s) (set ts)) → ⊥
unfolding same_value
source_set s ts t = t

pub nothing_set : (ts : Values) → T (same_value nothing (set ts)) → ⊥
unfolding same_value
nothing_set ts t = t

nothing_source : (s : Source) → T (same_value nothing (source s)) → ⊥
unfolding same_value
nothing_source s t = t

sources_same : (s r : Source) → T (same_value (source s) (source r)) → T (same_source s r)
unfolding same_value
sources_same s r t = t

sets_alike : (ts us : Values) → T (same_value (set ts) (set us)) → Alike ts us
unfolding same_value
sets_alike ts us t = (and_left (each_in ts us) _ t, and_right (each_in ts us) _ t)

same_from : (t u : Value) → t ≡ u → T (same_value t u)
same_from t u e = subst (λ x. T (same_value t x)) e (same_value_refl t)

-- ---- two bits: a set

like_first : (t : Value) (ts : Values) → T (each_value (same_value t) ts) → (s : Value) → Among s (add t ts) → T (same_value t s)
like_first t ts all s (inl e) = rw e (same_value_refl t)
like_first t ts all s (inr m) = each_element (same_value t) ts all s m

module _ (Code : Value → ℕ → Type 0)
    (same_code : (t u : Value) (c d : ℕ) → Code t c → Code u d → T (same_value t u) → c ≡ d) where
  two_bits : (ts : Values) (b : ℕ → Bool) (c d : ℕ) → Bits Code ts b → b c ≡ true → b d ≡ true → c ≢ d → collect ts ≡ set ts
  unfolding collect
  two_bits none b c d bits on on' ne = absurd (bits.from c on).1
  two_bits (add t ts) b c d bits on on' ne =
      elim (cases_Bool (each_value (same_value t) ts)) [
        | inl all ↦
            let (x, m, code) = bits.from c on in
            let (y, n, code') = bits.from d on' in
            let like = like_first t ts (T-from _ all) in
            absurd (ne (same_code x y c d code code' (same_value_trans x t y (same_value_sym t x (like x m)) (like y n))))
        | inr some ↦ rw some refl
      ]

-- ---- the positions

module _ (val : ℕ → Value) (num : ℕ → ℕ) (els : ℕ → Values) (b : ℕ → ℕ → Bool) where
  -- c is the column of t: of a source, or of a set that an earlier position has
  abbrev pub Coded : ℕ → Value → ℕ → Type 0
  Coded k t c =
      ((c < 2560) × (t ≡ source (source_at c)))
      ⊎ ((j : ℕ) × (2560 ≤ c) × (j < k) × T (same_value t (val j)) × (num j ≡ c + 1))

  pub data Done (k : ℕ) : Type 0 where
    opened : (c : ℕ) → c < 2560 → val k ≡ source (source_at c) → num k ≡ c + 1 → ((d : ℕ) → b k d ≡ true → ⊥) → Done k
    plain : val k ≡ collect (els k) → Bits (Coded k) (els k) (b k) → Settled b k (num k) → Done k

  -- the first position of its set
  pub record Leads (g : ℕ) : Type 0 where
    whole : val g ≡ set (els g)
    coded : Bits (Coded g) (els g) (b g)
    first : (j : ℕ) → j < g → SameRow b j g → ⊥

  -- what the number of a position says of its value
  pub data Told (i : ℕ) : Type 0 where
    void : num i ≡ 0 → val i ≡ nothing → Told i
    sourced : (c : ℕ) → c < 2560 → num i ≡ c + 1 → val i ≡ source (source_at c) → Told i
    grouped : (g : ℕ) → g ≤ i → num i ≡ 2561 + g → T (same_value (val i) (val g)) → Leads g → Told i

  coded_more : (k m : ℕ) → k ≤ m → (t : Value) (c : ℕ) → Coded k t c → Coded m t c
  coded_more k m le t c (inl s) = inl s
  coded_more k m le t c (inr (j, ge, lt, s, e)) = inr (j, ge, omega arith, s, e)

  bits_more : (k m : ℕ) → k ≤ m → (ts : Values) (d : ℕ → Bool) → Bits (Coded k) ts d → Bits (Coded m) ts d
  bits_more k m le ts d bits = record {
    from = λ c on. let (t, n, code) = bits.from c on in (t, n, coded_more k m le t c code);
    each = λ t n. let (c, code, on) = bits.each t n in (c, coded_more k m le t c code, on);
  }

  -- a number past the sources is that of a set
  pub group_set : (i c : ℕ) → Told i → num i ≡ c + 1 → 2560 ≤ c → (g : ℕ) × T (same_value (val i) (set (els g)))
  group_set i c (void n e) m ge = absurd (omega arith)
  group_set i c (sourced d h n e) m ge = absurd (omega arith)
  group_set i c (grouped g le n s lead) m ge = (g, subst (λ t. T (same_value (val i) t)) lead.whole s)

  pub record Stage (k : ℕ) : Type 0 where
    pub told : (i : ℕ) → i < k → Told i
    pub there : (i j : ℕ) → i < k → j < k → T (same_value (val i) (val j)) → num i ≡ num j
    pub back : (i j : ℕ) → i < k → j < k → num i ≡ num j → T (same_value (val i) (val j))

  module _ (k : ℕ) (stage : Stage k) where
    source_no_set : (s : Source) (c j : ℕ) → j < k → T (same_value (source s) (val j)) → num j ≡ c + 1 → 2560 ≤ c → ⊥
    source_no_set s c j lt same e ge =
        let (g, is_set) = group_set j c (stage.told j lt) e ge in
        source_set s (els g) (same_value_trans (source s) (val j) (set (els g)) same is_set)

    pub same_code : (t u : Value) (c d : ℕ) → Coded k t c → Coded k u d → T (same_value t u) → c ≡ d
    same_code t u c d (inl (hc, e)) (inl (hd, f)) s =
        source_column c d hc (sources_same _ _ (subst₂ (λ x y. T (same_value x y)) e f s))
    same_code t u c d (inl (hc, e)) (inr (j, ge, lt, s', f)) s =
        absurd (source_no_set (source_at c) d j lt (same_value_trans (source (source_at c)) u (val j) (subst (λ x. T (same_value x u)) e s) s') f ge)
    same_code t u c d (inr (j, ge, lt, s', f)) (inl (hd, e)) s =
        absurd (source_no_set (source_at d) c j lt
        (same_value_trans (source (source_at d)) t (val j) (subst (λ x. T (same_value x t)) e (same_value_sym t u s)) s') f ge)
    same_code t u c d (inr (i, ge, lt, s', f)) (inr (j, ge', lt', s'', f')) s =
        omega (arith, stage.there i j lt lt' (same_value_trans (val i) t (val j) (same_value_sym t (val i) s') (same_value_trans t u (val j) s s'')))

    pub code_same : (t u : Value) (c : ℕ) → Coded k t c → Coded k u c → T (same_value t u)
    code_same t u c (inl (hc, e)) (inl (hd, f)) = same_from t u (e ∙ sym f)
    code_same t u c (inl (hc, e)) (inr (j, ge, lt, s, f)) = absurd (omega arith)
    code_same t u c (inr (j, ge, lt, s, f)) (inl (hd, e)) = absurd (omega arith)
    code_same t u c (inr (i, ge, lt, s, f)) (inr (j, ge', lt', s', f')) =
        same_value_trans t (val i) u s
        (same_value_trans (val i) (val j) u (stage.back i j lt lt' (f ∙ sym f')) (same_value_sym u (val j) s'))

    -- ---- one position more

    lead_of : (f : ℕ) → f ≤ k → Done f → (c d : ℕ) → b k c ≡ true → b k d ≡ true → c ≢ d → SameRow b f k
        → ((j : ℕ) → j < f → SameRow b j k → ⊥) → Leads f × (val f ≡ collect (els f))
    lead_of f le (opened x h e n dark) c d on on' ne same least = absurd (dark c (same c ∙ on))
    lead_of f le (plain e bits settled) c d on on' ne same least = (
      record {
        whole = e ∙ two_bits (Coded k) same_code (els f) (b f) c d (bits_more f k le (els f) (b f) bits) (same c ∙ on) (same d ∙ on') ne;
        coded = bits;
        first = λ j lt row. least j lt (λ x. row x ∙ same x);
      },
      e,
    )

    told_lone : (c : ℕ) → num k ≡ c + 1 → Coded k (val k) c → Told k
    told_lone c n (inl (hc, e)) = sourced c hc n e
    told_lone c n (inr (j, ge, lt, s, f)) = go (stage.told j lt)
      where
        go : Told j → Told k
        go (void m e) = absurd (omega arith)
        go (sourced d h m e) = absurd (omega arith)
        go (grouped g le m s' lead) = grouped g (omega arith) (n ∙ sym f ∙ m) (same_value_trans (val k) (val j) (val g) s s') lead

    told_at : ((f : ℕ) → f ≤ k → Done f) → Done k → Told k
    told_at done (opened c h e n dark) = sourced c h n e
    told_at done (plain e bits (empty dark n)) = void n (e ∙ no_bit (Coded k) same_code code_same (els k) (b k) bits dark)
    told_at done (plain e bits (lone c on only n)) =
        told_lone c n (subst (λ t. Coded k t c) (sym e) (one_bit (Coded k) same_code code_same (els k) (b k) c bits on only))
    told_at done (plain e bits (crowd c d on on' ne f le same least n)) =
        let (lead, e') = lead_of f le (done f le) c d on on' ne same least in
        let alike = rows_alike (Coded k) same_code code_same (els k) (els f) (b k) (b f) bits
        (bits_more f k le (els f) (b f) lead.coded) (λ x. sym (same x)) in
        grouped f le n (subst₂ (λ t u. T (same_value t u)) (sym e) (sym e') (alike_collect (els k) (els f) alike)) lead

    -- leaders of alike sets are one
    one_leader : (g h : ℕ) → g ≤ k → h ≤ k → Leads g → Leads h → T (same_value (val g) (val h)) → g ≡ h
    one_leader g h hg hh lg lh s =
        let alike = sets_alike (els g) (els h) (subst₂ (λ t u. T (same_value t u)) lg.whole lh.whole s) in
        let bg = bits_more g k hg (els g) (b g) lg.coded in
        let bh = bits_more h k hh (els h) (b h) lh.coded in
        let same : SameRow b g h = λ c. bool_same (b g c) (b h c)
        (λ t. T-from _ (alike_there (Coded k) same_code code_same (els g) (els h) (b g) (b h) bg bh alike c (T_true t)))
        (λ t. T-from _ (alike_back (Coded k) same_code code_same (els g) (els h) (b g) (b h) bg bh alike c (T_true t))) in
        elim (cases_order g h) [
          | inl e ↦ e
          | inr (inl lt) ↦ absurd (lh.first g lt same)
          | inr (inr gt) ↦ absurd (lg.first h gt (λ c. sym (same c)))
        ]

    numbers_there : (i j : ℕ) → i ≤ k → j ≤ k → Told i → Told j → T (same_value (val i) (val j)) → num i ≡ num j
    numbers_there i j hi hj (void n e) (void m f) s = n ∙ sym m
    numbers_there i j hi hj (void n e) (sourced c h m f) s = absurd (nothing_source _ (subst₂ (λ t u. T (same_value t u)) e f s))
    numbers_there i j hi hj (void n e) (grouped g le m s' lead) s =
        absurd (nothing_set _ (subst₂ (λ t u. T (same_value t u)) e lead.whole (same_value_trans (val i) (val j) (val g) s s')))
    numbers_there i j hi hj (sourced c h n e) (void m f) s =
        absurd (nothing_source _ (subst₂ (λ t u. T (same_value t u)) f e (same_value_sym (val i) (val j) s)))
    numbers_there i j hi hj (sourced c h n e) (sourced d h' m f) s =
        let q = source_column c d h (sources_same _ _ (subst₂ (λ t u. T (same_value t u)) e f s)) in omega arith
    numbers_there i j hi hj (sourced c h n e) (grouped g le m s' lead) s =
        absurd (source_set _ _ (subst₂ (λ t u. T (same_value t u)) e lead.whole (same_value_trans (val i) (val j) (val g) s s')))
    numbers_there i j hi hj (grouped g le n s' lead) (void m f) s =
        absurd (nothing_set _ (subst₂ (λ t u. T (same_value t u)) f lead.whole (same_value_trans (val j) (val i) (val g) (same_value_sym (val i) (val j) s) s')))
    numbers_there i j hi hj (grouped g le n s' lead) (sourced d h m f) s =
        absurd (source_set _ _ (subst₂ (λ t u. T (same_value t u)) f lead.whole (same_value_trans (val j) (val i) (val g) (same_value_sym (val i) (val j) s) s')))
    numbers_there i j hi hj (grouped g le n s' lead) (grouped h le' m s'' lead') s =
        let q = one_leader g h (omega arith) (omega arith) lead lead'
        (same_value_trans (val g) (val i) (val h) (same_value_sym (val i) (val g) s') (same_value_trans (val i) (val j) (val h) s s'')) in
        omega arith

    numbers_back : (i j : ℕ) → Told i → Told j → num i ≡ num j → T (same_value (val i) (val j))
    numbers_back i j (void n e) (void m f) q = same_from _ _ (e ∙ sym f)
    numbers_back i j (void n e) (sourced c h m f) q = absurd (omega arith)
    numbers_back i j (void n e) (grouped g le m s lead) q = absurd (omega arith)
    numbers_back i j (sourced c h n e) (void m f) q = absurd (omega arith)
    numbers_back i j (sourced c h n e) (sourced d h' m f) q =
        let same : c ≡ d = omega arith in same_from _ _ (e ∙ ap (λ x. source (source_at x)) same ∙ sym f)
    numbers_back i j (sourced c h n e) (grouped g le m s lead) q = absurd (omega arith)
    numbers_back i j (grouped g le n s lead) (void m f) q = absurd (omega arith)
    numbers_back i j (grouped g le n s lead) (sourced d h m f) q = absurd (omega arith)
    numbers_back i j (grouped g le n s lead) (grouped h le' m s' lead') q =
        let same : g ≡ h = omega arith in
        same_value_trans (val i) (val g) (val j) s (same_value_sym (val j) (val g) (subst (λ x. T (same_value (val j) (val x))) (sym same) s'))

    stage_next : ((f : ℕ) → f ≤ k → Done f) → Stage (suc k)
    stage_next done =
        let here = told_at done (done k (omega arith)) in
        let all : (i : ℕ) → i < suc k → Told i = λ i h.
        elim (cases_eq i k) [ inl e ↦ subst Told (sym e) here | inr ne ↦ stage.told i (omega arith) ] in
        record {
          told = all;
          there = λ i j hi hj. numbers_there i j (omega arith) (omega arith) (all i hi) (all j hj);
          back = λ i j hi hj. numbers_back i j (all i hi) (all j hj);
        }

  pub stage_all : (k : ℕ) → ((f : ℕ) → f < k → Done f) → Stage k
  stage_all zero done = record { told = λ i h. absurd (omega arith); there = λ i j h. absurd (omega arith); back = λ i j h. absurd (omega arith) }
  stage_all (suc k) done = stage_next k (stage_all k (λ f h. done f (omega arith))) (λ f h. done f (omega arith))
