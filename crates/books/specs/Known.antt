-- Texts with known outcomes.
use Rattle.std.specs.Prelude.{◌≡◌, ℕ, zero, suc, Bool, true, false, ◌||◌, List, [], ◌∷◌, ◌++◌, Some, None, Ok, Err, codes, Result, ◌==◌}
use Rattle.std.specs.List.{flat_map}
use Rattle.constraints.specs.Outcome.{rows_of}
use Rattle.constraints.specs.Least.{least}
use Rattle.books.specs.Tables.{slot}
use Rattle.books.specs.Books.{table, list_of, row, declaring, defining}
use Rattle.books.specs.Loads.{clash, too_many_variables, too_many_words, too_many_calls}
use Rattle.books.specs.Replies.{points, alias}
use Rattle.books.specs.Targets.{targets, pointer}
use Rattle.books.specs.Listing.{origin}

abbrev pub valves : List ℕ
valves = codes "fun open 1; fun shut 1; var v; var h; var x; h = &open; h = &shut; x = (*h)(v);"

abbrev pub logger : List ℕ
logger = codes "extern fun open 1; var y; y = &open;"

abbrev pub point : List ℕ → List ℕ → Result Bool ℕ
point p n = points 22 23 (valves ∷ []) p n

abbrev pub share : List ℕ → List ℕ → Result Bool ℕ
share p q = alias 22 23 (valves ∷ []) p q

-- the one text: its list, its smallest solution, its targets and the replies over it
pub record KnownList : Type 0 where
  pub blocks : (list_of (valves ∷ [])).blocks ≡ 3 ∷ 3 ∷ 1 ∷ 1 ∷ 1 ∷ []
  pub words : (list_of (valves ∷ [])).words ≡ 0x0000_7000 ∷ 0x0000_7003 ∷ 0xD000_7006 ∷ 0x8800_8007 ∷ []
  pub solution : least (list_of (valves ∷ [])) ≡ rows_of (record { variable = 7; object = 0 } ∷ record { variable = 7; object = 3 } ∷ [])
  pub first_call : pointer valves 0 ≡ Some (slot (codes "h") 0)
  pub no_call : pointer valves 1 ≡ None
  pub targets_of_h : targets (table (valves ∷ [])) (row (valves ∷ []) (slot (codes "h") 0)) ≡ codes "open\nshut\n"
  pub targets_of_x : targets (table (valves ∷ [])) (row (valves ∷ []) (slot (codes "x") 0)) ≡ []
  pub targets_but_no_variable : targets (table (valves ∷ [])) (λ o. (o == 3) || o == 6) ≡ codes "shut\n"
  pub points_yes : point (codes "h") (codes "shut") ≡ Ok true
  pub points_no : point (codes "x") (codes "shut") ≡ Ok false
  pub no_place : point (codes "open.2") (codes "y") ≡ Err 22
  pub no_name : point (codes "open.1") (codes "open.1") ≡ Err 23
  pub alias_yes : share (codes "h") (codes "h") ≡ Ok true
  pub alias_no : share (codes "h") (codes "open.r") ≡ Ok false
  pub no_first : share (codes "v.r") (codes "y") ≡ Err 22
  pub no_second : share (codes "v") (codes "y") ≡ Err 23

-- two texts: names in order of first declaration, words by rising unit number
pub record KnownUnits : Type 0 where
  pub blocks : (list_of (logger ∷ valves ∷ [])).blocks ≡ 3 ∷ 1 ∷ 3 ∷ 1 ∷ 1 ∷ 1 ∷ []
  pub words : (list_of (logger ∷ valves ∷ [])).words ≡ 0x0000_3000 ∷ 0x0000_8000 ∷ 0x0000_8004 ∷ 0xD000_8007 ∷ 0x8800_9008 ∷ []
  pub from_logger : origin (None ∷ Some logger ∷ Some valves ∷ []) 0 ≡ Some (record { word = 0x0000_3000; unit = 1; at = 26 })
  pub from_valves : origin (None ∷ Some logger ∷ Some valves ∷ []) 3 ≡ Some (record { word = 0xD000_8007; unit = 2; at = 67 })
  pub past_the_end : origin (None ∷ Some logger ∷ Some valves ∷ []) 5 ≡ None
  pub declared_by_two : declaring (logger ∷ valves ∷ []) (codes "open") ≡ 2
  pub defined_by_one : defining (logger ∷ valves ∷ []) (codes "open") ≡ 1
  pub used_by_none : declaring (logger ∷ valves ∷ []) (codes "z") ≡ 0

pub record KnownClashes : Type 0 where
  pub kinds : clash (codes "var a;" ∷ []) (codes "extern var b; extern fun a 0;") ≡ Some 25
  pub counts : clash (codes "extern fun a 1;" ∷ []) (codes "extern fun a 2;") ≡ Some 11
  pub both_define : clash (codes "var b;" ∷ codes "var a;" ∷ []) (codes "var a; var b;") ≡ Some 4
  pub one_extern : clash (codes "var a;" ∷ []) (codes "extern var a;") ≡ None

-- 32 functions with six parameters, 512 copies, 64 indirect calls
abbrev pub functions_of_six : List ℕ
functions_of_six = flat_map (λ c. codes "fun " ++ c ∷ codes " 6;") (codes "abcdefghijklmnopqrstuvwxyzABCDEF")

abbrev pub repeated : ℕ → List ℕ → List ℕ
repeated zero part = []
repeated (suc n) part = part ++ repeated n part

abbrev pub copies : ℕ → List ℕ
copies n = codes "var a;" ++ repeated n (codes "a=a;")

abbrev pub indirect : ℕ → List ℕ
indirect n = codes "var a;" ++ repeated n (codes "(*a)();")

-- the last that is accepted, and one more
pub record KnownLimits : Type 0 where
  pub last_variable : too_many_variables (functions_of_six ∷ []) ≡ false
  pub one_variable_more : too_many_variables (functions_of_six ∷ codes "var G;" ∷ []) ≡ true
  pub last_word : too_many_words (copies 512 ∷ []) ≡ false
  pub one_word_more : too_many_words (copies 512 ∷ codes "extern var a; a=a;" ∷ []) ≡ true
  pub last_call : too_many_calls (indirect 64 ∷ []) ≡ false
  pub one_call_more : too_many_calls (indirect 64 ∷ indirect 1 ∷ []) ≡ true
