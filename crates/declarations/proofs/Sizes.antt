-- The lengths of names' blocks, declaration by declaration.
use Rattle.std.proofs.Common.{◌≡◌, ℕ, suc, ◌+◌, ◌<◌, ◌≤◌, Bool, true, false, cond, List, [], ◌∷◌, ◌++◌, length, get_or, set, sym, refl, ap, ◌∙◌, subst, ⊎_elim, append-nil, arith}
use Rattle.std.specs.Str.{bytes_eq}
use Rattle.std.proofs.lemmas.Slice.Eq.{bytes_eq-Decides}
use Rattle.std.proofs.lemmas.List.{get_or-set_same, get_or-set_other}
use Rattle.std.proofs.lemmas.Bool.{cases_eq, cases_lt, cond-true, cond-false, eqb-true}
use Rattle.numbering.specs.Keys.{Numbered}
use Rattle.numbering.specs.Lists.{same_list}
use Rattle.lexemes.specs.declared.lexeme.Span.{Span}
use Rattle.lexemes.specs.Texts.{name_in_text}
use Rattle.grammar.specs.declared.item.Linkage.{Linkage}
use Rattle.declarations.specs.declared.mention.Mention.{Mention as Noted}
use Rattle.declarations.specs.declared.mention.Mention.TheVariants.{Declares}
use Rattle.declarations.specs.Declarations.{Entry, size_of, Mention, declares, uses, calls, name_in, right, entry}
use Rattle.declarations.specs.Meanings.{mention_in}

other_bytes : (xs ys : List ℕ) → (xs ≡ ys → ⊥) → bytes_eq xs ys ≡ false
other_bytes xs ys apart = go (bytes_eq xs ys) refl
  where
    go : (b : Bool) → bytes_eq xs ys ≡ b → b ≡ false
    go false e = refl
    go true e = absurd (apart ((bytes_eq-Decides xs ys).0 e))

-- after the declarations of others, a name has the length that it is given next
size_new : (es fs : List Entry) (n : List ℕ) → size_of es n ≡ 0 → size_of (es ++ fs) n ≡ size_of fs n
size_new [] fs n e = refl
size_new (d ∷ es) fs n e = go (bytes_eq d.name n) (size_new es fs n) e
  where
    go : (b : Bool) → (size_of es n ≡ 0 → size_of (es ++ fs) n ≡ size_of fs n) → cond b (suc d.slots) (size_of es n) ≡ 0
        → cond b (suc d.slots) (size_of (es ++ fs) n) ≡ size_of fs n
    go true later h = absurd (omega arith)
    go false later h = later h

size_own : (n : List ℕ) (k : ℕ) → size_of (record { name = n; slots = k } ∷ []) n ≡ k + 1
size_own n k = cond-true _ _ _ ((bytes_eq-Decides n n).1 refl) ∙ omega arith

size_past : (es : List Entry) (d : Entry) (n : List ℕ) → bytes_eq d.name n ≡ false → size_of (es ++ d ∷ []) n ≡ size_of es n
size_past [] d n e = cond-false _ _ _ e
size_past (c ∷ es) d n e = ap (cond (bytes_eq c.name n) (suc c.slots)) (size_past es d n e)

-- a name that is declared now
pub size_declared : (text : List ℕ) (m : Noted) (l : Linkage) (n : Span) (k : ℕ) (es : List Entry) → m ≡ Declares l n k → right es (mention_in text m) ≡ true
    → k + 1 ≡ size_of (es ++ entry (mention_in text m)) (name_in (mention_in text m)).bytes
size_declared text m l n k es is =
    subst (λ (x : Noted). right es (mention_in text x) ≡ true → k + 1 ≡ size_of (es ++ entry (mention_in text x)) (name_in (mention_in text x)).bytes) (sym is)
    (λ h. sym (size_new es _ _ (eqb-true _ _ h) ∙ size_own (name_in_text text n).bytes k))

-- a mention changes no other name's length
size_other : (es : List Entry) (m : Mention) (n : List ℕ) → ((name_in m).bytes ≡ n → ⊥) → size_of (es ++ entry m) n ≡ size_of es n
size_other es (declares e x k) n apart = size_past es _ n (other_bytes x.bytes n apart)
size_other es (uses p) n apart = ap (λ (ds : List Entry). size_of ds n) (append-nil es)
size_other es (calls f k) n apart = ap (λ (ds : List Entry). size_of ds n) (append-nil es)

-- the lengths after the declarations es, each at the first position of its name
abbrev pub Sized : (ℕ → List ℕ) → ℕ → List ℕ → List ℕ → List Entry → Type 0
Sized key n first sizes es = (j : ℕ) → j < n → get_or sizes (get_or first j 0) 0 ≡ size_of es (key j)

module _ (key : ℕ → List ℕ) (n : ℕ) (first : List ℕ) (numbered : Numbered (same_list key) first n) where
  first_key : (j : ℕ) → j < n → key (get_or first j 0) ≡ key j
  first_key j h = (bytes_eq-Decides _ _).0 (numbered j h).alike

  -- no position comes before the first one
  pub first_within : (j : ℕ) → j < n → get_or first j 0 ≤ j
  first_within j h = ⊎_elim (λ lt. absurd ((numbered j h).least j lt ((bytes_eq-Decides (key j) (key j)).1 refl))) (λ le. le) (cases_lt j (get_or first j 0))

  not_before : (j k : ℕ) → j < n → k < n → key j ≡ key k → get_or first k 0 ≤ get_or first j 0
  not_before j k hj hk e =
      ⊎_elim (λ lt. absurd ((numbered k hk).least _ lt ((bytes_eq-Decides (key (get_or first j 0)) (key k)).1 (first_key j hj ∙ e)))) (λ le. le) (cases_lt (get_or first j 0) (get_or first k 0))

  pub sized_more : (sizes : List ℕ) (es : List Entry) (k s : ℕ) (m : Mention) → k < n → k < length sizes → key k ≡ (name_in m).bytes
      → s ≡ size_of (es ++ entry m) (name_in m).bytes → Sized key n first sizes es → Sized key n first (set sizes (get_or first k 0) s) (es ++ entry m)
  sized_more sizes es k s m hk room is own sized j hj =
      ⊎_elim
      (λ same. ap (λ (f : ℕ). get_or (set sizes (get_or first k 0) s) f 0) same ∙ get_or-set_same sizes (get_or first k 0) s 0 (omega (arith, first_within k hk)) ∙ own
      ∙ ap (size_of (es ++ entry m)) (sym is ∙ sym (first_key k hk) ∙ ap key (sym same) ∙ first_key j hj))
      (λ apart. get_or-set_other sizes (get_or first k 0) (get_or first j 0) s 0 apart ∙ sized j hj
      ∙ sym (size_other es m (key j) (λ e. apart (omega (arith, not_before j k hj hk (sym (is ∙ e)), not_before k j hk hj (is ∙ e))))))
      (cases_eq (get_or first j 0) (get_or first k 0))
