-- The first variables of the names of one small unit.
use Rattle.std.specs.Prelude.{ℕ, cond, List, codes}
use Rattle.std.specs.Str.{bytes_eq}

abbrev pub valve_first : List ℕ → ℕ
valve_first n =
    cond (bytes_eq n (codes "open")) 0 (cond (bytes_eq n (codes "shut")) 3
    (cond (bytes_eq n (codes "v")) 6 (cond (bytes_eq n (codes "h")) 7 (cond (bytes_eq n (codes "x")) 8 9))))
