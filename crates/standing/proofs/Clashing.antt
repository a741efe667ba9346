-- A clash by what the table of names knows.
use Rattle.std.proofs.Common.{◌≡◌, ℕ, suc, Bool, true, false, cond, not, ◌&&◌, ◌||◌, eqb, ltb, List, [], ◌∷◌, Some, None, Option, sym, refl, ap, ◌∙◌, arith}
use Rattle.std.specs.List.{flat_map}
use Rattle.std.proofs.lemmas.Bool.{lt-ltb, eqb-true, eqb-false, eq-eqb, ne_eqb}
use Rattle.declarations.specs.Declarations.{Mention, declares, uses, calls, kept, mentions_in, declarations_in}
use Rattle.names.specs.declared.record.Note.{Note}
use Rattle.books.specs.Members.{any_of}
use Rattle.books.specs.Books.{is_defined, defining, Book}
use Rattle.books.specs.Loads.{clashes, first_at, clash}
use Rattle.books.proofs.Members.{none_intro}
use Rattle.books.proofs.Counts.{clash_by_counts}
use Rattle.standing.specs.Knowledge.{size_in, defined_in, Knows}
use Rattle.standing.specs.Passes.{clashes_note, clashes_known}

suc_same : (a b : ℕ) → eqb (suc a) (suc b) ≡ eqb a b
suc_same a b = go (eqb a b) refl
  where
    go : (c : Bool) → eqb a b ≡ c → eqb (suc a) (suc b) ≡ c
    go true e = eq-eqb (suc a) (suc b) (ap suc (eqb-true a b e))
    go false e = ne_eqb (suc a) (suc b) (λ same. eqb-false a b e (omega arith))

by_note : (d : Bool) (k : ℕ) (o : Option Note) → ((ltb 0 (size_in o) && not (eqb (size_in o) (suc k))) || (d && defined_in o)) ≡ clashes_note d k o
by_note true k None = refl
by_note false k None = refl
by_note d k (Some note) =
    ap (λ (b : Bool). (b && not (eqb (suc note.slots) (suc k))) || (d && note.defined)) (lt-ltb 0 (suc note.slots) (omega arith))
    ∙ ap (λ (b : Bool). not b || (d && note.defined)) (suc_same note.slots k)

module _ (texts : List (List ℕ)) (known : List ℕ → Option Note) (book : Book texts) (knows : Knows known texts) where
  clashes_by : (m : Mention) → any_of (clashes m) texts ≡ clashes_known known m
  clashes_by (declares e n k) =
      clash_by_counts texts book e n k
      ∙ ap (λ (x : ℕ). (ltb 0 x && not (eqb x (suc k))) || (is_defined e && ltb 0 (defining texts n.bytes))) (sym (knows.sizes n.bytes))
      ∙ ap (λ (b : Bool). (ltb 0 (size_in (known n.bytes)) && not (eqb (size_in (known n.bytes)) (suc k))) || (is_defined e && b)) (sym (knows.defined n.bytes))
      ∙ by_note (is_defined e) k (known n.bytes)
  clashes_by (uses p) = none_intro _ texts (λ t t_in. refl)
  clashes_by (calls f k) = none_intro _ texts (λ t t_in. refl)

  first_clash : (ms : List Mention) → first_at (λ m. any_of (clashes m) texts) ms ≡ first_at (clashes_known known) (flat_map kept ms)
  first_clash [] = refl
  first_clash (declares e n k ∷ ms) =
      ap (λ (b : Bool). cond b (Some n.at) (first_at (λ m. any_of (clashes m) texts) ms)) (clashes_by (declares e n k))
      ∙ ap (cond (clashes_known known (declares e n k)) (Some n.at)) (first_clash ms)
  first_clash (uses p ∷ ms) = ap (λ (b : Bool). cond b (Some p.base.at) (first_at (λ m. any_of (clashes m) texts) ms)) (clashes_by (uses p)) ∙ first_clash ms
  first_clash (calls f k ∷ ms) = ap (λ (b : Bool). cond b (Some f.at) (first_at (λ m. any_of (clashes m) texts) ms)) (clashes_by (calls f k)) ∙ first_clash ms

  pub clash_known : (text : List ℕ) → clash texts text ≡ first_at (clashes_known known) (declarations_in text)
  unfolding clash
  clash_known text = first_clash (mentions_in text)
