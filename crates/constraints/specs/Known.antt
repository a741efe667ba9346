-- Lists with known outcomes: the rows of the smallest solution, and what the two ways of merging hand down.
use Rattle.std.specs.Prelude.{◌≡◌, ℕ, Bool, true, ◌&&◌, List, [], ◌∷◌, replicate}
use Rattle.constraints.specs.Constraint.{System}
use Rattle.constraints.specs.Least.{least}
use Rattle.constraints.specs.Merge.{equal_mark}
use Rattle.constraints.specs.Value.{equal_value}
use Rattle.constraints.specs.Outcome.{Pair, rows_of, is_outcome}
use Rattle.constraints.specs.MergeOutcome.{Reduction, all_reductions, RightReductions}

pub record Known : Type 0 where
  pub system : System
  -- a pair stands before those that it follows from
  pub solution : List Pair
  pub reductions : List Reduction

-- one test for the whole table
abbrev pub all_known : List Known → Bool
all_known [] = true
all_known (k ∷ ks) = (is_outcome k.system k.solution && all_reductions k.system k.reductions) && all_known ks

-- each entry is right
abbrev pub Right : List Known → Type 0
Right [] = Unit {0}
Right (k ∷ ks) = (least k.system ≡ rows_of k.solution) × RightReductions k.system k.reductions × Right ks

abbrev pub system : List ℕ → List ℕ → System
system blocks words = record { blocks = blocks; words = words }

-- blocks of one variable each
abbrev pub ones : ℕ → List ℕ
ones n = replicate n 1

abbrev pub at : ℕ → ℕ → Pair
at v o = record { variable = v; object = o }

-- no words, no pairs
abbrev pub empty_list : Known
empty_list = record { system = system [] []; solution = []; reductions = [] }

-- one object along a chain of copies: the variables after the first are merged into it
abbrev pub copy_chain : Known
copy_chain =
    record {
      system = system (ones 5) (0x00002000 ∷ 0x40003002 ∷ 0x40004003 ∷ []);
      solution = at 4 0 ∷ at 3 0 ∷ at 2 0 ∷ [];
      reductions =
          record {
            reach = at 2 4 ∷ at 3 4 ∷ at 2 3 ∷ at 0 0 ∷ at 1 1 ∷ at 2 2 ∷ at 3 3 ∷ at 4 4 ∷ [];
            classes = equal_value;
            words = 0x00002000 ∷ [];
            count = 2;
          }
          ∷ [];
    }

abbrev pub joined_words : List ℕ
joined_words = 0x00002000 ∷ 0x00003001 ∷ 0x40004002 ∷ 0x40004003 ∷ 0x40005004 ∷ 0x40005002 ∷ []

abbrev pub joined_reach : List Pair
joined_reach =
    at 3 5 ∷ at 2 5 ∷ at 4 5 ∷ at 3 4 ∷ at 2 4 ∷ at 0 0 ∷ at 1 1 ∷ at 2 2 ∷ at 3 3 ∷ at 4 4 ∷ at 5 5 ∷ []

-- two objects joined in one row, and that row joined with one of its own parts: values see no equality, marks do
abbrev pub joined_twice : Known
joined_twice =
    record {
      system = system (ones 6) joined_words;
      solution = at 5 1 ∷ at 5 0 ∷ at 4 1 ∷ at 4 0 ∷ at 3 1 ∷ at 2 0 ∷ [];
      reductions =
          record { reach = joined_reach; classes = equal_value; words = joined_words; count = 0 }
          ∷ record {
            reach = joined_reach;
            classes = equal_mark;
            words = 0x00002000 ∷ 0x00003001 ∷ 0x40004002 ∷ 0x40004003 ∷ [];
            count = 1;
          }
          ∷ [];
    }

-- a store at offset 3 through a pointer to a block of 3 does nothing
abbrev pub store_past_block : Known
store_past_block =
    record {
      system = system (3 ∷ 1 ∷ 1 ∷ []) (0x00004000 ∷ 0x00003003 ∷ 0xD8004003 ∷ []);
      solution = at 3 3 ∷ at 4 0 ∷ [];
      reductions = [];
    }

-- at offset 2 it writes the block's last variable
abbrev pub store_in_block : Known
store_in_block =
    record {
      system = system (3 ∷ 1 ∷ 1 ∷ []) (0x00004000 ∷ 0x00003003 ∷ 0xD0004003 ∷ []);
      solution = at 2 3 ∷ at 3 3 ∷ at 4 0 ∷ [];
      reductions = [];
    }

-- a pointer to two functions of one parameter each, called with an argument, its result taken
abbrev pub indirect_call : Known
indirect_call =
    record {
      system = system (3 ∷ 3 ∷ 1 ∷ 1 ∷ 1 ∷ []) (0x00007000 ∷ 0x00007003 ∷ 0xD0007006 ∷ 0x88008007 ∷ []);
      solution = at 7 3 ∷ at 7 0 ∷ [];
      reductions = [];
    }

abbrev pub table : List Known
table = empty_list ∷ copy_chain ∷ joined_twice ∷ store_past_block ∷ store_in_block ∷ indirect_call ∷ []
