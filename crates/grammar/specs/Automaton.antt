-- The automaton that reads items, lexeme by lexeme: a state is an item read in part. Assumes nothing.
use Rattle.std.specs.Prelude.{ℕ, Bool, false, cond, List, [], ◌∷◌, ◌++◌, length, Some, None, Option, ◌==◌, nat_lt}
use Rattle.std.specs.Str.{bytes_eq}
use Rattle.lexemes.specs.declared.lexeme.Sign.{Sign}
use Rattle.lexemes.specs.declared.lexeme.Sign.TheVariants.{Equals, Ampersand, Star, Open, Close, Comma, Semicolon, Stop}
use Rattle.lexemes.specs.declared.lexeme.Word.{Word}
use Rattle.lexemes.specs.declared.lexeme.Word.TheVariants.{Var, Fun, Extern}
use Rattle.grammar.specs.declared.item.Linkage.{Linkage}
use Rattle.grammar.specs.declared.item.Linkage.TheVariants.{Defined, External}
use Rattle.grammar.specs.declared.item.Slot.TheVariants.{Bare, Result, Parameter}
use Rattle.lexemes.specs.Terminals.{Name, Terminal, sign, word, name, number}
use Rattle.grammar.specs.Grammar.{Place, Callee, direct, through, address, copy, load, returned, Item, variable, function, assign, store, invoke}

-- what a place that is being read is for
pub data Role : Type 0 where
  target : Role
  stored : Role
  source : Place → Role
  copied : Place → Role
  loaded : Place → Role
  pointer : Option Place → Role
  argument : Option Place → Callee → List Place → Role

pub data State : Type 0 where
  start : State
  external : State
  variable_of : Linkage → State
  function_of : Linkage → State
  counted : Linkage → Name → State
  ended : Item → State
  placed : Role → State
  named : Role → Name → State
  dotted : Role → Name → State
  slotted : Role → Place → State
  valued : Place → State
  addressed : Place → State
  opened : Option Place → State
  closed : Option Place → Place → State
  called : Option Place → Callee → State

pub data Step : Type 0 where
  more : State → Step
  done : Item → Step
  fault : Step

abbrev pub sign_number : Sign → ℕ
sign_number Equals = 0
sign_number Ampersand = 1
sign_number Star = 2
sign_number Open = 3
sign_number Close = 4
sign_number Comma = 5
sign_number Semicolon = 6
sign_number Stop = 7

abbrev pub word_number : Word → ℕ
word_number Var = 0
word_number Fun = 1
word_number Extern = 2

abbrev pub is_sign : Sign → Terminal → Bool
is_sign s (sign t) = sign_number t == sign_number s
is_sign s (word w) = false
is_sign s (name n) = false
is_sign s (number k) = false

abbrev pub is_that_word : Word → Terminal → Bool
is_that_word w (sign t) = false
is_that_word w (word v) = word_number v == word_number w
is_that_word w (name n) = false
is_that_word w (number k) = false

-- what a name, or a number, leads to, and any other lexeme
abbrev pub on_name : Terminal → (Name → Step) → Step → Step
on_name (sign t) f z = z
on_name (word w) f z = z
on_name (name n) f z = f n
on_name (number k) f z = z

abbrev pub on_number : Terminal → (ℕ → Step) → Step → Step
on_number (sign t) f z = z
on_number (word w) f z = z
on_number (name n) f z = z
on_number (number k) f z = f k

abbrev pub on_sign : Sign → Terminal → Step → Step → Step
on_sign s l a z = cond (is_sign s l) a z

abbrev pub on_word : Word → Terminal → Step → Step → Step
on_word w l a z = cond (is_that_word w l) a z

abbrev pub bare : Name → Place
bare n = record { base = n; slot = Bare }

abbrev pub call_item : Option Place → Callee → List Place → Item
call_item None c ps = invoke (record { callee = c; arguments = ps })
call_item (Some p) c ps = assign p (returned (record { callee = c; arguments = ps }))

-- one argument more, up to six
abbrev pub pushed : List Place → Place → Option (List Place)
pushed ps p = cond (nat_lt (length ps) 6) (Some (ps ++ p ∷ [])) None

-- after an argument
abbrev pub follow_arguments : Option Place → Callee → Option (List Place) → Terminal → Step
follow_arguments t c None l = fault
follow_arguments t c (Some ps) l =
    on_sign Close l (more (ended (call_item t c ps))) (on_sign Comma l (cond (nat_lt (length ps) 6) (more (placed (argument t c ps))) fault) fault)

-- after a whole place
abbrev pub follow : Role → Place → Terminal → Step
follow target p l = on_sign Equals l (more (valued p)) fault
follow stored p l = on_sign Equals l (more (placed (source p))) fault
follow (source q) p l = on_sign Semicolon l (done (store q p)) fault
follow (copied q) p l = on_sign Semicolon l (done (assign q (copy p))) fault
follow (loaded q) p l = on_sign Semicolon l (done (assign q (load p))) fault
follow (pointer t) p l = on_sign Close l (more (closed t p)) fault
follow (argument t c ps) p l = follow_arguments t c (pushed ps p) l

-- after a name and "("
abbrev pub opening : Role → Name → Step
opening target n = more (called None (direct n))
opening stored n = fault
opening (source q) n = fault
opening (copied q) n = more (called (Some q) (direct n))
opening (loaded q) n = fault
opening (pointer t) n = fault
opening (argument t c ps) n = fault

abbrev pub step : State → Terminal → Step
step start l =
    on_word Extern l (more external) (on_word Var l (more (variable_of Defined)) (on_word Fun l (more (function_of Defined))
    (on_sign Star l (more (placed stored)) (on_sign Open l (more (opened None)) (on_name l (λ n. more (named target n)) fault)))))
step external l = on_word Var l (more (variable_of External)) (on_word Fun l (more (function_of External)) fault)
step (variable_of e) l = on_name l (λ n. more (ended (variable e n))) fault
step (function_of e) l = on_name l (λ n. more (counted e n)) fault
step (counted e n) l = on_number l (λ k. more (ended (function e n k))) fault
step (ended i) l = on_sign Semicolon l (done i) fault
step (placed r) l = on_name l (λ n. more (named r n)) fault
step (named r n) l = on_sign Stop l (more (dotted r n)) (on_sign Open l (opening r n) (follow r (bare n) l))
step (dotted r n) l =
    on_number l (λ k. more (slotted r (record { base = n; slot = Parameter k })))
    (on_name l (λ m. cond (bytes_eq m.bytes (114 ∷ [])) (more (slotted r (record { base = n; slot = Result m.at }))) fault) fault)
step (slotted r p) l = follow r p l
step (valued p) l =
    on_sign Ampersand l (more (addressed p)) (on_sign Star l (more (placed (loaded p))) (on_sign Open l (more (opened (Some p)))
    (on_name l (λ n. more (named (copied p) n)) fault)))
step (addressed p) l = on_name l (λ n. more (ended (assign p (address n)))) fault
step (opened t) l = on_sign Star l (more (placed (pointer t))) fault
step (closed t p) l = on_sign Open l (more (called t (through p))) fault
step (called t c) l = on_sign Close l (more (ended (call_item t c []))) (on_name l (λ n. more (named (argument t c []) n)) fault)
