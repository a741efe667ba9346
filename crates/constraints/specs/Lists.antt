-- What a list means, and what each change of it replies and leaves.
use Rattle.std.specs.Prelude.{ℕ, ◌+◌, cond, ◌&&◌, [], ◌∷◌, ◌++◌, length, Ok, Err, Result, nat_le, nat_lt}
use Rattle.constraints.specs.Constraint.{System, var_count}
use Rattle.constraints.specs.Words.{is_word}
use Rattle.constraints.specs.declared.list.calls.ListFault.{ListFault}
use Rattle.constraints.specs.declared.list.calls.ListFault.TheVariants.{Length, Variables, Malformed, Words}
use Rattle.constraints.specs.declared.list.ConstraintList.{ConstraintList}

-- the number of a refusal
abbrev pub refusal_number : ListFault → ℕ
refusal_number Length = 2
refusal_number Variables = 3
refusal_number Malformed = 4
refusal_number Words = 5

abbrev pub system_of : ConstraintList → System
system_of p = record { blocks = p.lengths.items; words = p.words.items }

-- no block and no word
abbrev pub no_words : System
no_words = record { blocks = []; words = [] }

abbrev pub with_block : System → ℕ → System
with_block sys n = record { blocks = sys.blocks ++ n ∷ []; words = sys.words }

abbrev pub with_word : System → ℕ → System
with_word sys w = record { blocks = sys.blocks; words = sys.words ++ w ∷ [] }

-- a block: its length is 1 to 8, and there are 256 variables at most
abbrev pub block_reply : System → ℕ → Result ℕ ListFault
block_reply sys n =
    cond (nat_le 1 n && nat_le n 8) (cond (nat_le (var_count sys + n) 256) (Ok (var_count sys)) (Err Variables)) (Err Length)

abbrev pub after_block : System → ℕ → System
after_block sys n = cond (nat_le 1 n && nat_le n 8) (cond (nat_le (var_count sys + n) 256) (with_block sys n) sys) sys

-- a word: it names variables and an object as its kind asks, and there are 512 at most
abbrev pub word_reply : System → ℕ → Result (Unit {0}) ListFault
word_reply sys w =
    cond (is_word sys.blocks w) (cond (nat_lt (length sys.words) 512) (Ok tt) (Err Words)) (Err Malformed)

abbrev pub after_word : System → ℕ → System
after_word sys w = cond (is_word sys.blocks w) (cond (nat_lt (length sys.words) 512) (with_word sys w) sys) sys
