-- Cells by what the table of names says.
use Rattle.std.proofs.Common.{◌≡◌, ℕ, ◌+◌, ◌<◌, ◌≤◌, cond, ltb, List, Some, None, Ok, Err, Option, Result, OkIff, sym, ap, ◌∙◌, arith}
use Rattle.std.specs.Result.{result_ok}
use Rattle.std.proofs.lemmas.Bool.{lt-ltb, le-ltb, cond-true, cond-false}
use Rattle.declarations.specs.Declarations.{Entry, size_of}
use Rattle.names.specs.declared.record.Note.{Note}
use Rattle.books.specs.Tables.{first_of}
use Rattle.standing.specs.Knowledge.{size_in}
use Rattle.standing.specs.Firsts.{first_in, Places}
use Rattle.standing.proofs.Placing.{first_below}

module _ (es : List Entry) (known : List ℕ → Option Note) (n : List ℕ) (k : ℕ) (places : Places es known) where
  abbrev pub variable_of : Option ℕ
  variable_of = cond (ltb k (size_of es n)) (Some (first_of es n + k)) None

  pub no_cell : size_in (known n) ≤ k → None ≡ variable_of
  no_cell h = sym (cond-false _ _ _ (le-ltb k (size_of es n) (omega (arith, places.sizes n, h))))

  -- the block of a known name is laid out, and its cells are below 256
  pub laid_at : 0 < size_in (known n) → first_in (known n) ≡ Some (first_of es n)
  laid_at some = places.firsts n ∙ cond-true _ _ _ (lt-ltb 0 (size_of es n) (omega (arith, places.sizes n, some)))

  pub cell_below : k < size_in (known n) → first_of es n + k < 256
  cell_below inside = omega (arith, first_below es n (omega (arith, places.sizes n, inside)), places.few, places.sizes n, inside)

  pub cell_there : k < size_in (known n) → Some (first_of es n + k) ≡ variable_of
  cell_there inside = sym (cond-true _ _ _ (lt-ltb k (size_of es n) (omega (arith, places.sizes n, inside))))

pub ok_if : {E : Type 0} (r : Result ℕ E) (P : Type 0) (v : ℕ) → OkIff r P v → P → result_ok r ≡ Some v
ok_if (Ok x) P v found p = ap Some found.1
ok_if (Err e) P v never p = absurd (never p)
