-- A byte's class. Assumes nothing.
use Rattle.std.specs.Prelude.{ℕ, Bool, cond, ◌||◌, ◌==◌}
use Rattle.std.specs.Char.{is_ascii_alphabetic, is_ascii_digit}
use Rattle.lexemes.specs.declared.class.Class.{Class}
use Rattle.lexemes.specs.declared.class.Class.TheVariants.{Blank, Letter, Digit, Sign, Other}

-- tab, line feed, carriage return, space
abbrev pub is_blank : ℕ → Bool
is_blank b = b == 9 || b == 10 || b == 13 || b == 32

-- a letter or the underscore
abbrev pub is_letter : ℕ → Bool
is_letter b = is_ascii_alphabetic b || b == 95

-- = & * ( ) , ; .
abbrev pub is_sign : ℕ → Bool
is_sign b = b == 61 || b == 38 || b == 42 || b == 40 || b == 41 || b == 44 || b == 59 || b == 46

abbrev pub class_of : ℕ → Class
class_of b = cond (is_blank b) Blank (cond (is_letter b) Letter (cond (is_ascii_digit b) Digit (cond (is_sign b) Sign Other)))
