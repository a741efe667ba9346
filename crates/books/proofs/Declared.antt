-- What the mentions of a text say of its names.
use Rattle.std.proofs.Common.{◌≡◌, ℕ, suc, ◌<◌, Bool, true, false, cond, List, [], ◌∷◌, ◌++◌, Some, None, sym, refl, ap, ◌∙◌, inl, inr, not-suc-le-zero, arith}
use Rattle.std.specs.List.{flat_map}
use Rattle.std.specs.Str.{bytes_eq}
use Rattle.std.proofs.lemmas.Bool.{cond-true, eqb-true, false≢true}
use Rattle.lexemes.specs.Terminals.{Name}
use Rattle.grammar.specs.declared.item.Linkage.{Linkage}
use Rattle.grammar.specs.declared.item.Linkage.TheVariants.{Defined, External}
use Rattle.declarations.specs.Declarations.{Entry, size_of, Mention, declares, uses, calls, entry, right, offset_of, fault_after, mentions_in, declared_in, fault_in}
use Rattle.books.specs.Members.{◌∈◌}
use Rattle.books.specs.Tables.{Once}
use Rattle.books.specs.Books.{defines_at, defines}
use Rattle.books.proofs.Options.{some_none}
use Rattle.books.proofs.Members.{any_elim, any_intro}
use Rattle.books.proofs.Tables.{same_bytes, bytes_same}
use Rattle.books.proofs.Faultless.{size_left, size_right}

-- a declaration of the name, with its slots
abbrev pub Declares : List Mention → List ℕ → ℕ → Type 0
Declares ms n size = (e : Linkage) × (m : Name) × (k : ℕ) × (declares e m k ∈ ms) × (m.bytes ≡ n) × (size ≡ suc k)

declares_later : (l : Mention) (ms : List Mention) (n : List ℕ) (size : ℕ) → Declares ms n size → Declares (l ∷ ms) n size
declares_later l ms n size (e, m, k, h, same, is) = (e, m, k, inr h, same, is)

-- a declared name has a declaration
pub size_mention : (ms : List Mention) (n : List ℕ) → 0 < size_of (flat_map entry ms) n → Declares ms n (size_of (flat_map entry ms) n)
size_mention [] n lt = absurd (not-suc-le-zero lt)
size_mention (uses p ∷ ms) n lt = declares_later (uses p) ms n _ (size_mention ms n lt)
size_mention (calls f j ∷ ms) n lt = declares_later (calls f j) ms n _ (size_mention ms n lt)
size_mention (declares d f j ∷ ms) n lt = go (bytes_eq f.bytes n) refl lt (size_mention ms n)
  where
    go : (b : Bool) → bytes_eq f.bytes n ≡ b → 0 < cond b (suc j) (size_of (flat_map entry ms) n)
        → (0 < size_of (flat_map entry ms) n → Declares ms n (size_of (flat_map entry ms) n))
        → Declares (declares d f j ∷ ms) n (cond b (suc j) (size_of (flat_map entry ms) n))
    go true same some ih = (d, f, j, inl refl, same_bytes f.bytes n same, refl)
    go false other some ih = declares_later (declares d f j) ms n _ (ih some)

some_step : (b : Bool) (x y : ℕ) → 0 < y → 0 < cond b (suc x) y
some_step true x y lt = omega arith
some_step false x y lt = lt

abbrev is_declaration : Mention → Bool
is_declaration (declares e n k) = true
is_declaration (uses p) = false
is_declaration (calls f k) = false

-- a declaration declares its name
pub mention_size : (ms : List Mention) (e : Linkage) (m : Name) (k : ℕ) → declares e m k ∈ ms → 0 < size_of (flat_map entry ms) m.bytes
mention_size [] e m k h = absurd h
mention_size (uses p ∷ ms) e m k (inl z) = absurd (false≢true (sym (ap is_declaration z)))
mention_size (calls f j ∷ ms) e m k (inl z) = absurd (false≢true (sym (ap is_declaration z)))
mention_size (declares d f j ∷ ms) e m k (inl z) =
    let same : m.bytes ≡ f.bytes = cc in
    let here : bytes_eq f.bytes m.bytes ≡ true = rw same (bytes_same f.bytes) in
    omega (arith, cond-true (bytes_eq f.bytes m.bytes) (suc j) (size_of (flat_map entry ms) m.bytes) here)
mention_size (uses p ∷ ms) e m k (inr h) = mention_size ms e m k h
mention_size (calls f j ∷ ms) e m k (inr h) = mention_size ms e m k h
mention_size (declares d f j ∷ ms) e m k (inr h) =
    some_step (bytes_eq f.bytes m.bytes) j (size_of (flat_map entry ms) m.bytes) (mention_size ms e m k h)

-- the mention declares the name without extern
defining_mention : (n : List ℕ) (m : Mention) → defines_at n m ≡ true → (l : Name) × (k : ℕ) × (m ≡ declares Defined l k) × (l.bytes ≡ n)
defining_mention n (declares Defined l k) e = (l, k, refl, same_bytes l.bytes n e)
defining_mention n (declares External l k) e = absurd (false≢true e)
defining_mention n (uses p) e = absurd (false≢true e)
defining_mention n (calls f k) e = absurd (false≢true e)

pub defines_mention : (t n : List ℕ) → defines t n ≡ true → (l : Name) × (k : ℕ) × (declares Defined l k ∈ mentions_in t) × (l.bytes ≡ n)
unfolding defines
defines_mention t n e =
    let (m, m_in, is) = any_elim (defines_at n) (mentions_in t) e in
    let (l, k, same, name) = defining_mention n m is in
    (l, k, rw same at m_in, name)

pub mention_defines : (t : List ℕ) (l : Name) (k : ℕ) → declares Defined l k ∈ mentions_in t → defines t l.bytes ≡ true
unfolding defines
mention_defines t l k h = any_intro (defines_at l.bytes) (declares Defined l k) (mentions_in t) h (bytes_same l.bytes)

pub defines_declares : (t n : List ℕ) → defines t n ≡ true → 0 < size_of (declared_in t) n
defines_declares t n e =
    let (l, k, l_in, name) = defines_mention t n e in
    rw name at (mention_size (mentions_in t) Defined l k l_in)

-- each name once, and none of those before
abbrev OnceAfter : List Entry → List Entry → Type 0
OnceAfter es fs = Once fs × ((n : List ℕ) → 0 < size_of es n → size_of fs n ≡ 0)

once_after : (es : List Entry) (ms : List Mention) → fault_after es ms ≡ None → OnceAfter es (flat_map entry ms)
once_after es [] e = (tt, λ n lt. refl)
once_after es (m ∷ ms) e = go m (right es m) refl e (once_after (es ++ entry m) ms)
  where
    go : (l : Mention) (b : Bool) → right es l ≡ b → cond b (fault_after (es ++ entry l) ms) (Some (offset_of l)) ≡ None
        → (fault_after (es ++ entry l) ms ≡ None → OnceAfter (es ++ entry l) (flat_map entry ms)) → OnceAfter es (entry l ++ flat_map entry ms)
    go l false is none ih = absurd (some_none none)
    go (uses p) true is none ih = let (once, new) = ih none in (once, λ n lt. new n (rw (size_left es [] n lt) lt))
    go (calls f k) true is none ih = let (once, new) = ih none in (once, λ n lt. new n (rw (size_left es [] n lt) lt))
    go (declares d f k) true is none ih =
        let (once, new) = ih none in
        let one : List Entry = record { name = f.bytes; slots = k } ∷ [] in
        let zero_before : size_of es f.bytes ≡ 0 = eqb-true (size_of es f.bytes) 0 is in
        let own : size_of (es ++ one) f.bytes ≡ suc k =
        size_right es one f.bytes zero_before ∙ cond-true (bytes_eq f.bytes f.bytes) (suc k) 0 (bytes_same f.bytes) in
        ((new f.bytes (omega (arith, own)), once), λ n lt. other n lt (bytes_eq f.bytes n) refl zero_before (new n (rw (size_left es one n lt) lt)))
      where
        other : (n : List ℕ) → 0 < size_of es n → (b : Bool) → bytes_eq f.bytes n ≡ b → size_of es f.bytes ≡ 0
            → size_of (flat_map entry ms) n ≡ 0 → cond b (suc k) (size_of (flat_map entry ms) n) ≡ 0
        other n lt true same zero_before rest =
            let z : size_of es n ≡ 0 = rw (← same_bytes f.bytes n same) zero_before in absurd (omega arith)
        other n lt false same zero_before rest = rest

-- a faultless text declares each name once
pub declared_once : (text : List ℕ) → fault_in text ≡ None → Once (declared_in text)
declared_once text e = (once_after [] (mentions_in text) e).0
