-- Which texts stand in units.
use Rattle.std.proofs.Common.{ℕ, List, [], ◌∷◌, Some, None, sym, ap, inl, inr}
use Rattle.books.specs.Members.{◌∈◌, ◌⊆◌}
use Rattle.books.specs.Books.{Units, standing, Stands}
use Rattle.books.proofs.Options.{none_some, some_same}

stands_in : (t : List ℕ) (units : Units) → Stands t units → t ∈ standing units
stands_in t [] h = h
stands_in t (None ∷ units) (inl e) = absurd (none_some e)
stands_in t (Some s ∷ units) (inl e) = inl (sym (some_same e))
stands_in t (None ∷ units) (inr h) = stands_in t units h
stands_in t (Some s ∷ units) (inr h) = inr (stands_in t units h)

in_stands : (t : List ℕ) (units : Units) → t ∈ standing units → Stands t units
in_stands t [] h = h
in_stands t (None ∷ units) h = inr (in_stands t units h)
in_stands t (Some s ∷ units) (inl e) = inl (ap Some (sym e))
in_stands t (Some s ∷ units) (inr h) = inr (in_stands t units h)

pub texts_within : (b c : Units) → ((t : List ℕ) → Stands t b → Stands t c) → standing b ⊆ standing c
texts_within b c sub t h = stands_in t c (sub t (in_stands t b h))
