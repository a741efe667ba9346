-- The automaton reads the grammar: what it accepts is a unit, and where it stops no unit goes on. Assumes nothing.
use Rattle.std.proofs.Common.{◌≡◌, ℕ, ◌≤◌, Bool, true, false, cond, List, [], ◌∷◌, ◌++◌, map, length, Some, None, Ok, Err, Option, Result, sym, refl, ap, ◌∙◌, subst, append_assoc, append-nil, arith}
use Rattle.std.specs.List.{AllByRecursion}
use Rattle.std.proofs.ByRecursion.{All-append}
use Rattle.lexemes.specs.Lexemes.{Lexical}
use Rattle.lexemes.specs.Texts.{first_at}
use Rattle.lexemes.proofs.Lexical.{LexicalPiece}
use Rattle.lexemes.specs.declared.lexeme.Sign.TheVariants.{Equals, Ampersand, Star, Open, Close, Semicolon}
use Rattle.lexemes.specs.declared.lexeme.Word.TheVariants.{Var}
use Rattle.grammar.specs.declared.item.Linkage.TheVariants.{External}
use Rattle.grammar.specs.declared.item.Slot.TheVariants.{Parameter}
use Rattle.lexemes.specs.Terminals.{Name, Terminal, sign, word, name, number, Piece, lexeme, stray}
use Rattle.grammar.specs.Grammar.{Place, Callee, through, address, copy, load, Item, variable, function, assign, store, place, arguments, callee, item, unit, Few, Legal, Admitted, Begins}
use Rattle.grammar.specs.Faults.{Spells, none, one, Fault, missing, strange, wrong, later, Reading}
use Rattle.grammar.specs.Automaton.{Role, target, stored, source, copied, loaded, pointer, argument, State, start, external, variable_of, function_of, counted, ended, placed, named, dotted, slotted, valued, addressed, opened, closed, called, Step, more, done, fault, bare, call_item, step}
use Rattle.grammar.specs.Parse.{is_start, Statement, item_of, with, after, parse, items}
use Rattle.grammar.proofs.Drives.{onward, goes, through_item}
use Rattle.grammar.proofs.Prefixes.{Terminals, assigned, before, read, FewBefore, FewRead, Reads, step_reads, call_few, last_argument, one_more, call_body}

-- where lexemes lead
abbrev last : Item → Option State → Option State
last i r = r

abbrev goes_to : State → Terminals → Option State
goes_to = goes (λ s. Some s) last None

abbrev onward_to : Step → (State → Option State) → Option State
onward_to = onward (λ s. Some s) last None

through_unit : (u : List Item) (rest : Terminals) → Legal u → goes_to start (unit u rest) ≡ goes_to start rest
through_unit [] rest h = refl
through_unit (i ∷ is) rest h = through_item (λ s. Some s) last None i (unit is rest) h.0 ∙ through_unit is rest h.1

-- lexemes one after another
abbrev then : Option State → Terminals → Option State
then (Some s) ls = goes_to s ls
then None ls = None

onward_on : (o : Step) (f g : State → Option State) (ys : Terminals) → ((t : State) → f t ≡ then (g t) ys) → onward_to o f ≡ then (onward_to o g) ys
onward_on (more t) f g ys h = h t
onward_on (done i) f g ys h = h start
onward_on fault f g ys h = refl

goes_on : (s : State) (xs ys : Terminals) → goes_to s (xs ++ ys) ≡ then (goes_to s xs) ys
goes_on s [] ys = refl
goes_on s (x ∷ xs) ys = onward_on (step s x) _ _ ys (λ t. goes_on t xs ys)

-- every state can be completed to an item
abbrev Completes : (Terminals → Terminals) → Type 0
Completes f = (i : Item) × Few i × (rest : Terminals) × AllByRecursion Lexical rest × (item i [] ≡ f rest)

abbrev some_name : Name
some_name = record { at = 0; bytes = 120 ∷ [] }

complete_call : (t : Option Place) (c : Callee) (ps : List Place) → length ps ≤ 6 → Completes (λ rest. assigned t (callee c (sign Open ∷ arguments ps rest)))
complete_call t c ps h = (call_item t c ps, call_few t c ps h, sign Close ∷ sign Semicolon ∷ [], (tt, (tt, tt)), sym (call_body t c ps (sign Semicolon ∷ [])))

complete_place : (r : Role) (p : Place) → FewBefore r → Completes (λ rest. before r (place p rest))
complete_place target p h = (assign p (copy (bare some_name)), tt, sign Equals ∷ name some_name ∷ sign Semicolon ∷ [], (tt, (refl, (tt, tt))), refl)
complete_place stored p h = (store p (bare some_name), tt, sign Equals ∷ name some_name ∷ sign Semicolon ∷ [], (tt, (refl, (tt, tt))), refl)
complete_place (source q) p h = (store q p, tt, sign Semicolon ∷ [], (tt, tt), refl)
complete_place (copied q) p h = (assign q (copy p), tt, sign Semicolon ∷ [], (tt, tt), refl)
complete_place (loaded q) p h = (assign q (load p), tt, sign Semicolon ∷ [], (tt, tt), refl)
complete_place (pointer t) p h =
    let (i, few, rest, lex, e) = complete_call t (through p) [] (omega arith) in (i, few, sign Close ∷ sign Open ∷ rest, (tt, (tt, lex)), e)
complete_place (argument t c ps) p h =
    (call_item t c (ps ++ p ∷ []), call_few t c _ (one_more ps p 5 h), sign Close ∷ sign Semicolon ∷ [], (tt, (tt, tt)), sym (last_argument t c ps p (sign Semicolon ∷ [])))

complete : (s : State) → FewRead s → (u : List Item) × Legal u × (rest : Terminals) × AllByRecursion Lexical rest × (unit u [] ≡ read s rest)
complete start h = ([], tt, [], tt, refl)
complete external h = (variable External some_name ∷ [], (tt, tt), word Var ∷ name some_name ∷ sign Semicolon ∷ [], (tt, (refl, (tt, tt))), refl)
complete (variable_of e) h = (variable e some_name ∷ [], (tt, tt), name some_name ∷ sign Semicolon ∷ [], (refl, (tt, tt)), refl)
complete (function_of e) h = (function e some_name 0 ∷ [], (tt, tt), name some_name ∷ number 0 ∷ sign Semicolon ∷ [], (refl, (omega arith, (tt, tt))), refl)
complete (counted e n) h = (function e n 0 ∷ [], (tt, tt), number 0 ∷ sign Semicolon ∷ [], (omega arith, (tt, tt)), refl)
complete (ended i) h = (i ∷ [], (h, tt), sign Semicolon ∷ [], (tt, tt), refl)
complete (placed r) h = let (i, few, rest, lex, e) = complete_place r (bare some_name) h in (i ∷ [], (few, tt), name some_name ∷ rest, (refl, lex), e)
complete (named r n) h = let (i, few, rest, lex, e) = complete_place r (bare n) h in (i ∷ [], (few, tt), rest, lex, e)
complete (dotted r n) h =
    let (i, few, rest, lex, e) = complete_place r (record { base = n; slot = Parameter 1 }) h in (i ∷ [], (few, tt), number 1 ∷ rest, (omega arith, lex), e)
complete (slotted r p) h = let (i, few, rest, lex, e) = complete_place r p h in (i ∷ [], (few, tt), rest, lex, e)
complete (valued p) h = (assign p (address some_name) ∷ [], (tt, tt), sign Ampersand ∷ name some_name ∷ sign Semicolon ∷ [], (tt, (refl, (tt, tt))), refl)
complete (addressed p) h = (assign p (address some_name) ∷ [], (tt, tt), name some_name ∷ sign Semicolon ∷ [], (refl, (tt, tt)), refl)
complete (opened t) h =
    let (i, few, rest, lex, e) = complete_call t (through (bare some_name)) [] (omega arith) in
    (i ∷ [], (few, tt), sign Star ∷ name some_name ∷ sign Close ∷ sign Open ∷ rest, (tt, (refl, (tt, (tt, lex)))), e)
complete (closed t p) h = let (i, few, rest, lex, e) = complete_call t (through p) [] (omega arith) in (i ∷ [], (few, tt), sign Open ∷ rest, (tt, lex), e)
complete (called t c) h = let (i, few, rest, lex, e) = complete_call t c [] (omega arith) in (i ∷ [], (few, tt), rest, lex, e)

legal_more : (u v : List Item) → Legal u → Legal v → Legal (u ++ v)
legal_more [] v h k = k
legal_more (i ∷ u) v h k = (h.0, legal_more u v h.1 k)

unit_more : (u v : List Item) (rest : Terminals) → unit (u ++ v) rest ≡ unit u (unit v rest)
unit_more [] v rest = refl
unit_more (i ∷ u) v rest = ap (item i) (unit_more u v rest)

-- the lexemes ls are those of the items u and then what s has read
record Sofar (ls : Terminals) (u : List Item) (s : State) : Type 0 where
  lexical : AllByRecursion Lexical ls
  legal : Legal u
  few : FewRead s
  written : (rest : Terminals) → ls ++ rest ≡ unit u (read s rest)
  led : goes_to start ls ≡ Some s

nothing : Sofar [] [] start
nothing = record { lexical = tt; legal = tt; few = tt; written = λ rest. refl; led = refl }

begins : {ls : Terminals} {u : List Item} {s : State} → Sofar ls u s → Begins ls
begins {ls} {u} {s} h =
    let (v, legal, rest, lex, e) = complete s h.few in
    (rest, (u ++ v, legal_more u v h.legal legal, unit_more u v [] ∙ ap (unit u) e ∙ sym (h.written rest), All-append Lexical ls rest h.lexical lex))

leads : (ls : Terminals) (s : State) (l : Terminal) (o : Step) → goes_to start ls ≡ Some s → step s l ≡ o → goes_to start (ls ++ l ∷ []) ≡ onward_to o (λ t. Some t)
leads ls s l o led e = goes_on start ls (l ∷ []) ∙ ap (λ (x : Option State). then x (l ∷ [])) led ∙ ap (λ (x : Step). onward_to x (λ t. Some t)) e

module _ {ls : Terminals} {u : List Item} {s : State} (h : Sofar ls u s) (l : Terminal) (lex : Lexical l) where
  moved : (t : State) → step s l ≡ more t → Sofar (ls ++ l ∷ []) u t
  moved t e =
      let (few, reads) = subst (Reads s l) e (step_reads s l h.few) in
      record { lexical = All-append Lexical ls (l ∷ []) h.lexical (lex, tt); legal = h.legal; few = few; written = λ rest. append_assoc ls (l ∷ []) rest ∙ h.written (l ∷ rest) ∙ ap (unit u) (reads rest); led = leads ls s l _ h.led e }

  ended_item : (i : Item) → step s l ≡ done i → Sofar (ls ++ l ∷ []) (u ++ i ∷ []) start
  ended_item i e =
      let (few, reads) = subst (Reads s l) e (step_reads s l h.few) in
      record {
        lexical = All-append Lexical ls (l ∷ []) h.lexical (lex, tt);
        legal = legal_more u (i ∷ []) h.legal (few, tt);
        few = tt;
        written = λ rest. append_assoc ls (l ∷ []) rest ∙ h.written (l ∷ rest) ∙ ap (unit u) (reads rest) ∙ sym (unit_more u (i ∷ []) rest);
        led = leads ls s l _ h.led e;
      }

  -- no unit's lexemes go on with l
  stuck : step s l ≡ fault → Begins (ls ++ l ∷ []) → ⊥
  stuck e b =
      let (rest, adm) = b in
      let (v, legal, w, _) = adm in
      let whole : goes_to start ((ls ++ l ∷ []) ++ rest) ≡ Some start = ap (goes_to start) (sym w) ∙ through_unit v [] legal in
      let none : goes_to start ((ls ++ l ∷ []) ++ rest) ≡ None = goes_on start (ls ++ l ∷ []) rest ∙ ap (λ (x : Option State). then x rest) (leads ls s l fault h.led e) in
      let z : ◌≡◌ {A = ℕ} 0 1 = cc in omega arith

-- an item is unfinished
unfinished : {ls : Terminals} {u : List Item} {s : State} → Sofar ls u s → is_start s ≡ false → Admitted ls → ⊥
unfinished {ls} {u} {s} h e adm =
    let (v, legal, w, _) = adm in
    let whole : goes_to start ls ≡ Some start = ap (goes_to start) (sym w) ∙ through_unit v [] legal in
    let led = h.led in
    let same : s ≡ start = cc in
    let f : is_start s ≡ true = ap is_start same in
    let z : ◌≡◌ {A = ℕ} 0 1 = cc in omega arith

-- where it refuses, there the fault is
abbrev Faulty : ℕ → Terminals → List Piece → Result (List Statement) ℕ → Type 0
Faulty size ls ps (Ok ss) = Unit {0}
Faulty size ls ps (Err off) = Fault size ls ps off

faulty_with : (size : ℕ) (ls : Terminals) (ps : List Piece) (s : Statement) (r : Result (List Statement) ℕ) → Faulty size ls ps r → Faulty size ls ps (with s r)
faulty_with size ls ps s (Ok ss) h = tt
faulty_with size ls ps s (Err off) h = h

faulty_later : (size : ℕ) (ls : Terminals) (at : ℕ) (l : Terminal) (ps : List Piece) (r : Result (List Statement) ℕ) → Faulty size (ls ++ l ∷ []) ps r → Faulty size ls (lexeme at l ∷ ps) r
faulty_later size ls at l ps (Ok ss) h = tt
faulty_later size ls at l ps (Err off) h = later h

faulty_end : (size : ℕ) {ls : Terminals} {u : List Item} (s : State) (b : Bool) → Sofar ls u s → is_start s ≡ b → Faulty size ls [] (cond b (Ok []) (Err size))
faulty_end size s true h e = tt
faulty_end size s false h e = missing (begins h) (unfinished h e)

faulty_step : (size begin : ℕ) {ls : Terminals} {u : List Item} (s : State) (at : ℕ) (l : Terminal) (ps : List Piece) (o : Step) → Sofar ls u s → Lexical l → step s l ≡ o →
    ((v : List Item) (b : ℕ) (t : State) → Sofar (ls ++ l ∷ []) v t → Faulty size (ls ++ l ∷ []) ps (parse size b t ps)) →
    Faulty size ls (lexeme at l ∷ ps) (after o begin at (first_at ps) (λ b t. parse size b t ps))
faulty_step size begin s at l ps (more t) h lex e rec = faulty_later size _ at l ps _ (rec _ begin t (moved h l lex t e))
faulty_step size begin s at l ps (done i) h lex e rec =
    faulty_with size _ (lexeme at l ∷ ps) (record { at = begin; item = i }) _
    (faulty_later size _ at l ps (parse size (first_at ps) start ps) (rec _ (first_at ps) start (ended_item h l lex i e)))
faulty_step size begin s at l ps fault h lex e rec = wrong (begins h) (stuck h l lex e)

faulty : (size begin : ℕ) (ls : Terminals) (u : List Item) (s : State) (ps : List Piece) → AllByRecursion LexicalPiece ps → Sofar ls u s → Faulty size ls ps (parse size begin s ps)
faulty size begin ls u s [] lex h = faulty_end size s (is_start s) h refl
faulty size begin ls u s (stray at ∷ ps) lex h = strange (begins h)
faulty size begin ls u s (lexeme at l ∷ ps) (here, lex) h = faulty_step size begin s at l ps (step s l) h here refl (λ v b t k. faulty size b _ v t ps lex k)

-- where it accepts, the items are what is written
abbrev Whole : State → List Piece → Result (List Statement) ℕ → Type 0
Whole s ps (Ok ss) = Legal (map item_of ss) × (ls : Terminals) × Spells ps ls × (unit (map item_of ss) [] ≡ read s ls)
Whole s ps (Err off) = Unit {0}

is_start_lem : (s : State) → is_start s ≡ true → s ≡ start
is_start_lem start q = refl
is_start_lem external q = cc
is_start_lem (variable_of e) q = cc
is_start_lem (function_of e) q = cc
is_start_lem (counted e n) q = cc
is_start_lem (ended i) q = cc
is_start_lem (placed r) q = cc
is_start_lem (named r n) q = cc
is_start_lem (dotted r n) q = cc
is_start_lem (slotted r p) q = cc
is_start_lem (valued p) q = cc
is_start_lem (addressed p) q = cc
is_start_lem (opened t) q = cc
is_start_lem (closed t p) q = cc
is_start_lem (called t c) q = cc

whole_end : (size : ℕ) (s : State) (b : Bool) → is_start s ≡ b → Whole s [] (cond b (Ok []) (Err size))
whole_end size s false e = tt
whole_end size s true e = (tt, [], none, ap (λ (t : State). read t []) (sym (is_start_lem s e)))

whole_more : (s t : State) (at : ℕ) (l : Terminal) (ps : List Piece) → ((rest : Terminals) → read s (l ∷ rest) ≡ read t rest) →
    (r : Result (List Statement) ℕ) → Whole t ps r → Whole s (lexeme at l ∷ ps) r
whole_more s t at l ps reads (Ok ss) h = let (legal, ls, spells, e) = h in (legal, l ∷ ls, one spells, e ∙ sym (reads ls))
whole_more s t at l ps reads (Err off) h = tt

whole_done : (s : State) (i : Item) (begin at : ℕ) (l : Terminal) (ps : List Piece) → Few i → ((rest : Terminals) → read s (l ∷ rest) ≡ item i rest) →
    (r : Result (List Statement) ℕ) → Whole start ps r → Whole s (lexeme at l ∷ ps) (with (record { at = begin; item = i }) r)
whole_done s i begin at l ps few reads (Ok ss) h = let (legal, ls, spells, e) = h in ((few, legal), l ∷ ls, one spells, ap (item i) e ∙ sym (reads ls))
whole_done s i begin at l ps few reads (Err off) h = tt

whole_step : (size begin : ℕ) (s : State) (at : ℕ) (l : Terminal) (ps : List Piece) (o : Step) → Reads s l o →
    ((b : ℕ) (t : State) → FewRead t → Whole t ps (parse size b t ps)) → Whole s (lexeme at l ∷ ps) (after o begin at (first_at ps) (λ b t. parse size b t ps))
whole_step size begin s at l ps (more t) reads rec = whole_more s t at l ps reads.1 _ (rec begin t reads.0)
whole_step size begin s at l ps (done i) reads rec = whole_done s i begin at l ps reads.0 reads.1 _ (rec (first_at ps) start tt)
whole_step size begin s at l ps fault reads rec = tt

whole : (size begin : ℕ) (s : State) (ps : List Piece) → FewRead s → Whole s ps (parse size begin s ps)
whole size begin s [] h = whole_end size s (is_start s) refl
whole size begin s (stray at ∷ ps) h = tt
whole size begin s (lexeme at l ∷ ps) h = whole_step size begin s at l ps (step s l) (step_reads s l h) (λ b t k. whole size b t ps k)

-- a text with a fault is no unit's
refused : (size : ℕ) {ls : Terminals} {ps : List Piece} {off : ℕ} {rest : Terminals} → Fault size ls ps off → Spells ps rest → Admitted (ls ++ rest) → ⊥
refused size (missing begun no_unit) none adm = no_unit (subst Admitted (append-nil _) adm)
refused size (strange begun) w adm = elim w [ ]
refused size (wrong {ls = ls} {l = l} begun no_more) (one {ls = rest} w) adm = no_more (rest, subst Admitted (sym (append_assoc ls (l ∷ []) rest)) adm)
refused size (later {ls = ls} {l = l} f) (one {ls = rest} w) adm = refused size f w (subst Admitted (sym (append_assoc ls (l ∷ []) rest)) adm)

pub spells_lexical : {ps : List Piece} {ls : Terminals} → Spells ps ls → AllByRecursion LexicalPiece ps → AllByRecursion Lexical ls
spells_lexical none all = tt
spells_lexical (one s) (h, all) = (h, spells_lexical s all)

reading : (size : ℕ) (ps : List Piece) (r : Result (List Statement) ℕ) → AllByRecursion LexicalPiece ps → Whole start ps r → Faulty size [] ps r → Reading size ps (items r)
reading size ps (Ok ss) lex h k = let (legal, ls, spells, e) = h in (legal, subst (Spells ps) (sym e) spells)
reading size ps (Err off) lex h k = (k, λ u w. refused size k w.1 (u, w.0, refl, spells_lexical w.1 lex))

-- the grammar is what is recognised
pub recognised : (size begin : ℕ) (ps : List Piece) → AllByRecursion LexicalPiece ps → Reading size ps (items (parse size begin start ps))
recognised size begin ps lex = reading size ps (parse size begin start ps) lex (whole size begin start ps tt) (faulty size begin [] [] start ps lex nothing)
