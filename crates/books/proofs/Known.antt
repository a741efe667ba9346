-- Known outcomes, computed.
use Rattle.std.proofs.Common.{◌≡◌, ℕ, Bool, ◌&&◌, List, [], ◌∷◌, Ok, Result, refl, ap}
use Rattle.constraints.specs.Finite.{any, every}
use Rattle.constraints.specs.Rows.{Rows}
use Rattle.constraints.specs.Constraint.{decode, length_of}
use Rattle.constraints.specs.Least.{least, follows}
use Rattle.constraints.specs.Outcome.{Pair, rows_of, is_outcome}
use Rattle.constraints.proofs.Outcome.{outcome_least}
use Rattle.grammar.specs.Units.{read}
use Rattle.units.specs.Listing.{words_in, pointers_in, listing}
use Rattle.declarations.specs.Declarations.{mentions_in}
use Rattle.books.specs.Books.{table, words, indirect_calls, list_of, defines}
use Rattle.books.specs.Loads.{clash, too_many_variables, too_many_words, too_many_calls}
use Rattle.books.specs.Replies.{place_among, name_in}
use Rattle.books.specs.Targets.{targets, pointer}
use Rattle.books.specs.Listing.{listed_words}
use Rattle.books.specs.Known.{valves, KnownList, KnownUnits, KnownClashes, KnownLimits}

abbrev pairs : List Pair
pairs = record { variable = 7; object = 0 } ∷ record { variable = 7; object = 3 } ∷ []

solved : least (list_of (valves ∷ [])) ≡ rows_of pairs
unfolding read mentions_in words_in table words any every follows decode length_of is_outcome
solved = outcome_least (list_of (valves ∷ [])) pairs tt

abbrev answer : Bool → Result Bool ℕ
answer b = Ok b

pub known_list : KnownList
unfolding read mentions_in words_in pointers_in table words pointer targets place_among name_in any
known_list =
    record {
      blocks = refl;
      words = refl;
      solution = solved;
      first_call = refl;
      no_call = refl;
      targets_of_h = ap (λ (R : Rows). targets (table (valves ∷ [])) (R 7)) solved;
      targets_of_x = ap (λ (R : Rows). targets (table (valves ∷ [])) (R 8)) solved;
      targets_but_no_variable = refl;
      points_yes = ap (λ (R : Rows). answer (R 7 3)) solved;
      points_no = ap (λ (R : Rows). answer (R 8 3)) solved;
      no_place = refl;
      no_name = refl;
      alias_yes = ap (λ (R : Rows). answer (any 256 (λ o. R 7 o && R 7 o))) solved;
      alias_no = ap (λ (R : Rows). answer (any 256 (λ o. R 7 o && R 1 o))) solved;
      no_first = refl;
      no_second = refl;
    }

pub known_units : KnownUnits
unfolding read mentions_in words_in listing table words listed_words defines
known_units =
    record {
      blocks = refl;
      words = refl;
      from_logger = refl;
      from_valves = refl;
      past_the_end = refl;
      declared_by_two = refl;
      defined_by_one = refl;
      used_by_none = refl;
    }

pub known_clashes : KnownClashes
unfolding read mentions_in clash defines
known_clashes = record { kinds = refl; counts = refl; both_define = refl; one_extern = refl }

pub known_limits : KnownLimits
unfolding read mentions_in words_in pointers_in table words indirect_calls too_many_variables too_many_words too_many_calls
known_limits =
    record { last_variable = refl; one_variable_more = refl; last_word = refl; one_word_more = refl; last_call = refl; one_call_more = refl }
