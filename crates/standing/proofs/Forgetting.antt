-- What forgetting the declarations of a text leaves in the table of names, name by name.
use Rattle.std.proofs.Common.{◌≡◌, ℕ, suc, ◌-◌, Bool, true, false, cond, not, ◌&&◌, ◌||◌, ltb, List, [], ◌∷◌, Some, None, Option, sym, refl, ap, ◌∙◌, arith}
use Rattle.std.specs.List.{flat_map}
use Rattle.std.specs.Str.{bytes_eq}
use Rattle.std.proofs.lemmas.Bool.{lt-ltb, le-ltb}
use Rattle.lexemes.specs.Terminals.{Name}
use Rattle.grammar.specs.declared.item.Linkage.{Linkage}
use Rattle.declarations.specs.Declarations.{size_of, Mention, declares, uses, calls, entry}
use Rattle.names.specs.declared.record.Note.{Note}
use Rattle.names.specs.Notes.{lowered, then_note}
use Rattle.books.specs.Members.{any_of}
use Rattle.books.specs.Tables.{Once}
use Rattle.books.specs.Books.{is_defined, defines_at}
use Rattle.books.proofs.Tables.{same_bytes}
use Rattle.standing.specs.Knowledge.{size_in, units_in, defined_in}
use Rattle.standing.specs.Passes.{forget_one, forget_all}

abbrev less : Bool → Option Note → Option Note
less d o = then_note (λ note. Some (lowered note d)) o

less_size : (d : Bool) (o : Option Note) → size_in (less d o) ≡ size_in o
less_size d None = refl
less_size d (Some note) = refl

less_units : (d : Bool) (o : Option Note) → units_in (less d o) ≡ units_in o - 1
less_units d None = refl
less_units d (Some note) = refl

less_defined : (d : Bool) (o : Option Note) → defined_in (less d o) ≡ (defined_in o && not d)
less_defined d None = refl
less_defined d (Some note) = refl

and_nor : (a b c : Bool) → ((a && not b) && not c) ≡ (a && not ((b && true) || c))
and_nor true true c = refl
and_nor true false c = refl
and_nor false b c = refl

nor_false : (a b c : Bool) → (a && not c) ≡ (a && not ((b && false) || c))
nor_false a true c = refl
nor_false a false c = refl

and_not_false : (a : Bool) → a ≡ (a && not false)
and_not_false true = refl
and_not_false false = refl

-- what is left of a name's note
pub record Less (n : List ℕ) (before : Option Note) (ds : List Mention) (after : Option Note) : Type 0 where
  pub size : size_in after ≡ size_in before
  pub units : units_in after ≡ units_in before - cond (ltb 0 (size_of (flat_map entry ds) n)) 1 0
  pub defined : defined_in after ≡ (defined_in before && not (any_of (defines_at n) ds))

module _ (n : List ℕ) where
  forget_step : (known : List ℕ → Option Note) (e : Linkage) (m : Name) (k : ℕ) (ds : List Mention) (x : Option Note) → Once (flat_map entry (declares e m k ∷ ds))
      → Less n (forget_one known (declares e m k) n) ds x → Less n (known n) (declares e m k ∷ ds) x
  forget_step known e m k ds x once later =
      let (size, units, defined) = go (bytes_eq m.bytes n) refl later in record { size = size; units = units; defined = defined }
    where
      rest : ℕ
      rest = size_of (flat_map entry ds) n

      go : (b : Bool) → bytes_eq m.bytes n ≡ b → Less n (cond b (less (is_defined e) (known m.bytes)) (known n)) ds x
          → (size_in x ≡ size_in (known n))
          × (units_in x ≡ units_in (known n) - cond (ltb 0 (cond b (suc k) rest)) 1 0)
          × (defined_in x ≡ (defined_in (known n) && not ((is_defined e && b) || any_of (defines_at n) ds)))
      go false is r = (r.size, r.units, r.defined ∙ nor_false (defined_in (known n)) (is_defined e) (any_of (defines_at n) ds))
      go true is r =
          let same : m.bytes ≡ n = same_bytes m.bytes n is in
          let was : less (is_defined e) (known m.bytes) ≡ less (is_defined e) (known n) = ap (λ (l : List ℕ). less (is_defined e) (known l)) same in
          let none : rest ≡ 0 = ap (size_of (flat_map entry ds)) (sym same) ∙ once.0 in
          let no : ltb 0 rest ≡ false = le-ltb 0 rest (omega arith) in
          let yes : ltb 0 (suc k) ≡ true = lt-ltb 0 (suc k) (omega arith) in (
            r.size ∙ ap size_in was ∙ less_size (is_defined e) (known n),
            omega (arith, r.units, ap units_in was, less_units (is_defined e) (known n), ap (λ (b : Bool). cond {A = ℕ} b 1 0) no, ap (λ (b : Bool). cond {A = ℕ} b 1 0) yes),
            r.defined ∙ ap (λ (b : Bool). b && not (any_of (defines_at n) ds)) (ap defined_in was ∙ less_defined (is_defined e) (known n))
                ∙ and_nor (defined_in (known n)) (is_defined e) (any_of (defines_at n) ds),
          )

  pub forgotten : (known : List ℕ → Option Note) (ds : List Mention) → Once (flat_map entry ds) → Less n (known n) ds (forget_all known ds n)
  forgotten known [] once = record { size = refl; units = omega arith; defined = and_not_false (defined_in (known n)) }
  forgotten known (uses p ∷ ds) once = let r = forgotten known ds once in record { size = r.size; units = r.units; defined = r.defined }
  forgotten known (calls f k ∷ ds) once = let r = forgotten known ds once in record { size = r.size; units = r.units; defined = r.defined }
  forgotten known (declares e m k ∷ ds) once = forget_step known e m k ds _ once (forgotten (forget_one known (declares e m k)) ds once.1)
