-- What a state of the automaton has read of an item, and how it can go on. Assumes nothing.
use Rattle.std.proofs.Common.{◌≡◌, ℕ, ◌+◌, ◌≤◌, true, cond, eqb, ltb, List, [], ◌∷◌, ◌++◌, length, Some, None, Option, sym, refl, ap, ◌∙◌, subst, arith, length-append}
use Rattle.std.specs.Str.{bytes_eq}
use Rattle.std.proofs.lemmas.Bool.{cond_both, cond-true, eqb-true, ltb-true, lt-ltb}
use Rattle.std.proofs.lemmas.Slice.Eq.{bytes_eq-Decides}
use Rattle.lexemes.specs.declared.lexeme.Sign.{Sign}
use Rattle.lexemes.specs.declared.lexeme.Sign.TheVariants.{Equals, Ampersand, Star, Open, Close, Comma, Semicolon, Stop}
use Rattle.lexemes.specs.declared.lexeme.Word.{Word}
use Rattle.lexemes.specs.declared.lexeme.Word.TheVariants.{Var, Fun, Extern}
use Rattle.grammar.specs.declared.item.Slot.TheVariants.{Result}
use Rattle.lexemes.specs.Terminals.{Name, Terminal, sign, word, name, number}
use Rattle.grammar.specs.Grammar.{Place, Callee, through, place, others, arguments, callee, linkage, body, item, Few}
use Rattle.grammar.specs.Automaton.{Role, target, stored, source, copied, loaded, pointer, argument, State, start, external, variable_of, function_of, counted, ended, placed, named, dotted, slotted, valued, addressed, opened, closed, called, Step, more, done, fault, is_sign, is_that_word, sign_number, word_number, on_name, on_number, on_sign, on_word, bare, call_item, pushed, follow_arguments, follow, opening, step}

abbrev pub Terminals : Type 0
Terminals = List Terminal

-- "place =" before a call, if there is one
abbrev pub assigned : Option Place → Terminals → Terminals
assigned None rest = rest
assigned (Some p) rest = place p (sign Equals ∷ rest)

-- arguments, each with its comma
abbrev pub given : List Place → Terminals → Terminals
given [] rest = rest
given (p ∷ ps) rest = place p (sign Comma ∷ given ps rest)

-- what has been read before the place
abbrev pub before : Role → Terminals → Terminals
before target rest = rest
before stored rest = sign Star ∷ rest
before (source p) rest = sign Star ∷ place p (sign Equals ∷ rest)
before (copied p) rest = place p (sign Equals ∷ rest)
before (loaded p) rest = place p (sign Equals ∷ sign Star ∷ rest)
before (pointer t) rest = assigned t (sign Open ∷ sign Star ∷ rest)
before (argument t c ps) rest = assigned t (callee c (sign Open ∷ given ps rest))

-- what has been read of the item
abbrev pub read : State → Terminals → Terminals
read start rest = rest
read external rest = word Extern ∷ rest
read (variable_of e) rest = linkage e (word Var ∷ rest)
read (function_of e) rest = linkage e (word Fun ∷ rest)
read (counted e n) rest = linkage e (word Fun ∷ name n ∷ rest)
read (ended i) rest = body i rest
read (placed r) rest = before r rest
read (named r n) rest = before r (name n ∷ rest)
read (dotted r n) rest = before r (name n ∷ sign Stop ∷ rest)
read (slotted r p) rest = before r (place p rest)
read (valued p) rest = place p (sign Equals ∷ rest)
read (addressed p) rest = place p (sign Equals ∷ sign Ampersand ∷ rest)
read (opened t) rest = assigned t (sign Open ∷ rest)
read (closed t p) rest = assigned t (callee (through p) rest)
read (called t c) rest = assigned t (callee c (sign Open ∷ rest))

-- no call has more than six arguments, or more than can be completed
abbrev pub FewBefore : Role → Type 0
FewBefore target = Unit {0}
FewBefore stored = Unit {0}
FewBefore (source p) = Unit {0}
FewBefore (copied p) = Unit {0}
FewBefore (loaded p) = Unit {0}
FewBefore (pointer t) = Unit {0}
FewBefore (argument t c ps) = length ps ≤ 5

abbrev pub FewRead : State → Type 0
FewRead start = Unit {0}
FewRead external = Unit {0}
FewRead (variable_of e) = Unit {0}
FewRead (function_of e) = Unit {0}
FewRead (counted e n) = Unit {0}
FewRead (ended i) = Few i
FewRead (placed r) = FewBefore r
FewRead (named r n) = FewBefore r
FewRead (dotted r n) = FewBefore r
FewRead (slotted r p) = FewBefore r
FewRead (valued p) = Unit {0}
FewRead (addressed p) = Unit {0}
FewRead (opened t) = Unit {0}
FewRead (closed t p) = Unit {0}
FewRead (called t c) = Unit {0}

-- a step reads the lexeme, and nothing else
abbrev pub Reads : State → Terminal → Step → Type 0
Reads s l (more s') = FewRead s' × ((rest : Terminals) → read s (l ∷ rest) ≡ read s' rest)
Reads s l (done i) = Few i × ((rest : Terminals) → read s (l ∷ rest) ≡ item i rest)
Reads s l fault = Unit {0}

-- the tests
sign_at : ℕ → Sign
sign_at n =
    cond (eqb n 0) Equals (cond (eqb n 1) Ampersand (cond (eqb n 2) Star (cond (eqb n 3) Open
    (cond (eqb n 4) Close (cond (eqb n 5) Comma (cond (eqb n 6) Semicolon Stop))))))

sign_back : (s : Sign) → sign_at (sign_number s) ≡ s
unfolding sign_at
sign_back Equals = refl
sign_back Ampersand = refl
sign_back Star = refl
sign_back Open = refl
sign_back Close = refl
sign_back Comma = refl
sign_back Semicolon = refl
sign_back Stop = refl

word_at : ℕ → Word
word_at n = cond (eqb n 0) Var (cond (eqb n 1) Fun Extern)

word_back : (w : Word) → word_at (word_number w) ≡ w
unfolding word_at
word_back Var = refl
word_back Fun = refl
word_back Extern = refl

is_sign_lem : (s : Sign) (l : Terminal) → is_sign s l ≡ true → sign s ≡ l
is_sign_lem s (sign t) e = ap sign (sym (sign_back s) ∙ ap sign_at (sym (eqb-true _ _ e)) ∙ sign_back t)
is_sign_lem s (word w) e = cc
is_sign_lem s (name n) e = cc
is_sign_lem s (number k) e = cc

is_word : (w : Word) (l : Terminal) → is_that_word w l ≡ true → word w ≡ l
is_word w (sign t) e = cc
is_word w (word v) e = ap word (sym (word_back w) ∙ ap word_at (sym (eqb-true _ _ e)) ∙ word_back v)
is_word w (name n) e = cc
is_word w (number k) e = cc

-- what holds of each way that a lexeme may lead
module _ (P : Terminal → Step → Type 0) where
  by_sign : (s : Sign) (l : Terminal) (a z : Step) → P (sign s) a → P l z → P l (on_sign s l a z)
  by_sign s l a z here there =
      cond_both (is_sign s l) a z (P l) (λ e. subst (λ (m : Terminal). P m a) (is_sign_lem s l e) here) (λ e. there)

  by_word : (w : Word) (l : Terminal) (a z : Step) → P (word w) a → P l z → P l (on_word w l a z)
  by_word w l a z here there =
      cond_both (is_that_word w l) a z (P l) (λ e. subst (λ (m : Terminal). P m a) (is_word w l e) here) (λ e. there)

  by_name : (l : Terminal) (f : Name → Step) (z : Step) → ((n : Name) → P (name n) (f n)) → P l z → P l (on_name l f z)
  by_name (sign s) f z here there = there
  by_name (word w) f z here there = there
  by_name (name n) f z here there = here n
  by_name (number k) f z here there = there

  by_number : (l : Terminal) (f : ℕ → Step) (z : Step) → ((k : ℕ) → P (number k) (f k)) → P l z → P l (on_number l f z)
  by_number (sign s) f z here there = there
  by_number (word w) f z here there = there
  by_number (name n) f z here there = there
  by_number (number k) f z here there = here k

others_more : (ps : List Place) (p : Place) (rest : Terminals) → sign Comma ∷ given ps (place p rest) ≡ others (ps ++ p ∷ []) rest
others_more [] p rest = refl
others_more (q ∷ ps) p rest = ap (λ (t : Terminals). sign Comma ∷ place q t) (others_more ps p rest)

arguments_more : (ps : List Place) (p : Place) (rest : Terminals) → given ps (place p rest) ≡ arguments (ps ++ p ∷ []) rest
arguments_more [] p rest = refl
arguments_more (q ∷ ps) p rest = ap (place q) (others_more ps p rest)

pub call_few : (t : Option Place) (c : Callee) (ps : List Place) → length ps ≤ 6 → Few (call_item t c ps)
call_few None c ps h = h
call_few (Some p) c ps h = h

pub call_body : (t : Option Place) (c : Callee) (ps : List Place) (rest : Terminals) → assigned t (callee c (sign Open ∷ arguments ps (sign Close ∷ rest))) ≡ body (call_item t c ps) rest
call_body None c ps rest = refl
call_body (Some p) c ps rest = refl

pub one_more : (ps : List Place) (p : Place) (n : ℕ) → length ps ≤ n → length (ps ++ p ∷ []) ≤ n + 1
one_more ps p n h = simp length-append (omega arith)

pub last_argument : (t : Option Place) (c : Callee) (ps : List Place) (p : Place) (rest : Terminals) →
    before (argument t c ps) (place p (sign Close ∷ rest)) ≡ body (call_item t c (ps ++ p ∷ [])) rest
last_argument t c ps p rest = ap (λ (x : Terminals). assigned t (callee c (sign Open ∷ x))) (arguments_more ps p (sign Close ∷ rest)) ∙ call_body t c (ps ++ p ∷ []) rest

given_more : (ps : List Place) (p : Place) (rest : Terminals) → given ps (place p (sign Comma ∷ rest)) ≡ given (ps ++ p ∷ []) rest
given_more [] p rest = refl
given_more (q ∷ ps) p rest = ap (λ (x : Terminals). place q (sign Comma ∷ x)) (given_more ps p rest)

pub pushed_is : (ps : List Place) (p : Place) → length ps ≤ 5 → pushed ps p ≡ Some (ps ++ p ∷ [])
pushed_is ps p h = cond-true (ltb (length ps) 6) _ _ (lt-ltb _ _ (omega arith))

comma_reads : (t : Option Place) (c : Callee) (ps : List Place) (p : Place) →
    Reads (slotted (argument t c ps) p) (sign Comma) (cond (ltb (length (ps ++ p ∷ [])) 6) (more (placed (argument t c (ps ++ p ∷ [])))) fault)
comma_reads t c ps p =
    cond_both (ltb (length (ps ++ p ∷ [])) 6) _ _ (Reads (slotted (argument t c ps) p) (sign Comma))
    (λ e. (omega (arith, ltb-true _ _ e), λ rest. ap (λ (x : Terminals). assigned t (callee c (sign Open ∷ x))) (given_more ps p rest)))
    (λ e. tt)

follow_reads : (r : Role) (p : Place) (l : Terminal) → FewBefore r → Reads (slotted r p) l (follow r p l)
follow_reads target p l h = by_sign (Reads (slotted target p)) Equals l _ _ (tt, λ rest. refl) tt
follow_reads stored p l h = by_sign (Reads (slotted stored p)) Equals l _ _ (tt, λ rest. refl) tt
follow_reads (source q) p l h = by_sign (Reads (slotted (source q) p)) Semicolon l _ _ (tt, λ rest. refl) tt
follow_reads (copied q) p l h = by_sign (Reads (slotted (copied q) p)) Semicolon l _ _ (tt, λ rest. refl) tt
follow_reads (loaded q) p l h = by_sign (Reads (slotted (loaded q) p)) Semicolon l _ _ (tt, λ rest. refl) tt
follow_reads (pointer t) p l h = by_sign (Reads (slotted (pointer t) p)) Close l _ _ (tt, λ rest. refl) tt
follow_reads (argument t c ps) p l h =
    subst (λ (o : Option (List Place)). Reads (slotted (argument t c ps) p) l (follow_arguments t c o l)) (sym (pushed_is ps p h))
    (by_sign (Reads (slotted (argument t c ps) p)) Close l _ _ (call_few t c _ (one_more ps p 5 h), last_argument t c ps p)
    (by_sign (Reads (slotted (argument t c ps) p)) Comma l _ _ (comma_reads t c ps p) tt))

opening_reads : (r : Role) (n : Name) → Reads (named r n) (sign Open) (opening r n)
opening_reads target n = (tt, λ rest. refl)
opening_reads stored n = tt
opening_reads (source q) n = tt
opening_reads (copied q) n = (tt, λ rest. refl)
opening_reads (loaded q) n = tt
opening_reads (pointer t) n = tt
opening_reads (argument t c ps) n = tt

-- a bare name is a place
bare_reads : (r : Role) (n : Name) (l : Terminal) (o : Step) → Reads (slotted r (bare n)) l o → Reads (named r n) l o
bare_reads r n l (more s) h = h
bare_reads r n l (done i) h = h
bare_reads r n l fault h = h

result_reads : (r : Role) (n m : Name) → FewBefore r →
    Reads (dotted r n) (name m) (cond (bytes_eq m.bytes (114 ∷ [])) (more (slotted r (record { base = n; slot = Result m.at }))) fault)
result_reads r n m h =
    cond_both (bytes_eq m.bytes (114 ∷ [])) _ _ (Reads (dotted r n) (name m))
    (λ e. (h, λ rest. ap (λ (b : List ℕ). before r (name n ∷ sign Stop ∷ name (record { at = m.at; bytes = b }) ∷ rest)) ((bytes_eq-Decides m.bytes (114 ∷ [])).0 e)))
    (λ e. tt)

pub step_reads : (s : State) (l : Terminal) → FewRead s → Reads s l (step s l)
step_reads start l h =
    by_word (Reads start) Extern l _ _ (tt, λ rest. refl) (by_word (Reads start) Var l _ _ (tt, λ rest. refl) (by_word (Reads start) Fun l _ _ (tt, λ rest. refl)
    (by_sign (Reads start) Star l _ _ (tt, λ rest. refl) (by_sign (Reads start) Open l _ _ (tt, λ rest. refl) (by_name (Reads start) l _ _ (λ n. (tt, λ rest. refl)) tt)))))
step_reads external l h = by_word (Reads external) Var l _ _ (tt, λ rest. refl) (by_word (Reads external) Fun l _ _ (tt, λ rest. refl) tt)
step_reads (variable_of e) l h = by_name (Reads (variable_of e)) l _ _ (λ n. (tt, λ rest. refl)) tt
step_reads (function_of e) l h = by_name (Reads (function_of e)) l _ _ (λ n. (tt, λ rest. refl)) tt
step_reads (counted e n) l h = by_number (Reads (counted e n)) l _ _ (λ k. (tt, λ rest. refl)) tt
step_reads (ended i) l h = by_sign (Reads (ended i)) Semicolon l _ _ (h, λ rest. refl) tt
step_reads (placed r) l h = by_name (Reads (placed r)) l _ _ (λ n. (h, λ rest. refl)) tt
step_reads (named r n) l h =
    by_sign (Reads (named r n)) Stop l _ _ (h, λ rest. refl) (by_sign (Reads (named r n)) Open l _ _ (opening_reads r n) (bare_reads r n l _ (follow_reads r (bare n) l h)))
step_reads (dotted r n) l h =
    by_number (Reads (dotted r n)) l _ _ (λ k. (h, λ rest. refl)) (by_name (Reads (dotted r n)) l _ _ (λ m. result_reads r n m h) tt)
step_reads (slotted r p) l h = follow_reads r p l h
step_reads (valued p) l h =
    by_sign (Reads (valued p)) Ampersand l _ _ (tt, λ rest. refl) (by_sign (Reads (valued p)) Star l _ _ (tt, λ rest. refl)
    (by_sign (Reads (valued p)) Open l _ _ (tt, λ rest. refl) (by_name (Reads (valued p)) l _ _ (λ n. (tt, λ rest. refl)) tt)))
step_reads (addressed p) l h = by_name (Reads (addressed p)) l _ _ (λ n. (tt, λ rest. refl)) tt
step_reads (opened t) l h = by_sign (Reads (opened t)) Star l _ _ (tt, λ rest. refl) tt
step_reads (closed t p) l h = by_sign (Reads (closed t p)) Open l _ _ (tt, λ rest. refl) tt
step_reads (called t c) l h =
    by_sign (Reads (called t c)) Close l _ _ (call_few t c [] (omega arith), λ rest. call_body t c [] rest)
    (by_name (Reads (called t c)) l _ _ (λ n. (omega arith, λ rest. refl)) tt)
