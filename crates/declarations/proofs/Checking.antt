-- The mentions of a text, checked one after another.
use Rattle.std.proofs.Common.{◌≡◌, ℕ, ◌+◌, ◌<◌, ◌≤◌, Bool, true, false, List, [], ◌∷◌, ◌++◌, map, length, get_or, drop, set, replicate, Some, None, Ok, sym, refl, ap, ◌∙◌, subst, append_assoc, append-nil, arith}
use Rattle.std.specs.List.{flat_map}
use Rattle.std.proofs.lemmas.List.{length-append, length-map, get_or-map, get_or-replicate, drop_all, at_drop_more}
use Rattle.std.proofs.lemmas.Bool.{cond-true, cond-false}
use Rattle.numbering.specs.Keys.{Numbered}
use Rattle.numbering.specs.Lists.{same_list}
use Rattle.grammar.specs.declared.state.Found.{Found}
use Rattle.grammar.specs.Meanings.{item_in}
use Rattle.grammar.specs.declared.unit.Items.{Items}
use Rattle.grammar.specs.Items.{text_of, offset_of as offset_in, GivesItem}
use Rattle.grammar.specs.Units.{read, outcome, statements_in}
use Rattle.grammar.proofs.Reading.{read_whole, Left, left_from}
use Rattle.grammar.proofs.Items.{item_more, item_none}
use Rattle.declarations.specs.declared.mention.Mention.{Mention}
use Rattle.declarations.specs.Declarations as declarations
use Rattle.declarations.specs.Declarations.{Entry, size_of, name_in, right, entry, offset_of, fault_after, mentions, mentions_at, mentions_in}
use Rattle.declarations.specs.Meanings.{mention_in, spelling, key, noted}
use Rattle.declarations.proofs.Sizes.{Sized, first_within, sized_more}
use Rattle.declarations.proofs.Few.{few_mentions}

-- the mentions of a text up to an offset are noted
pub record Noting (text : List ℕ) (ms : List Mention) (at : ℕ) : Type 0 where
  pub left : Left text at (λ ss. noted text ms ++ flat_map mentions_at ss ≡ mentions_in text)

module _ (text : List ℕ) (ok : Ok tt ≡ outcome (read text)) where
  pub noting_none : (ms : List Mention) (at : ℕ) → at ≡ 0 → ms ≡ [] → Noting text ms at
  unfolding mentions_in
  noting_none ms at e none = record { left = left_from text _ (read_whole text ok) at e (ap (λ (xs : List Mention). noted text xs ++ flat_map mentions_at (statements_in text)) none) }

  module _ (ms : List Mention) (s t : Items) (same : text_of s ≡ text) (noting : Noting text ms (offset_in s)) where
    pub noting_few : length ms ≤ 4096
    noting_few =
        omega (
          arith,
          length-map ms (mention_in text),
          length-append (noted text ms) (flat_map mentions_at noting.left.rest),
          ap length noting.left.holds,
          few_mentions text ok,
          (read_whole text ok).few,
        )

    pub noting_more : (f : Found) (next : List Mention) → GivesItem s (Some f) t → noted text next ≡ noted text ms ++ mentions (item_in text f.item) → Noting text next (offset_in t)
    noting_more f next given e =
        record {
          left =
              item_more text s t noting.left (λ ss. noted text next ++ flat_map mentions_at ss ≡ mentions_in text) f same given
              (λ ss h. ap (λ (xs : List declarations.Mention). xs ++ flat_map mentions_at ss) e ∙ append_assoc (noted text ms) _ _ ∙ h);
        }

    pub noting_all : GivesItem s None t → noted text ms ≡ mentions_in text
    noting_all given = sym (append-nil _) ∙ item_none text s t noting.left same given

pub key_at : (text : List ℕ) (ms : List Mention) (i : ℕ) (d : Mention) → i < length ms → key text ms i ≡ spelling text (get_or ms i d)
key_at text ms i d h = get_or-map (spelling text) ms i d [] h

-- the first k mentions are right; their declarations, and the lengths that they give
pub record Passed (text : List ℕ) (ms : List Mention) (first sizes : List ℕ) (k : ℕ) : Type 0 where
  pub entries : List Entry
  pub sized : Sized (key text ms) (length ms) first sizes entries
  pub rest : fault_after entries (drop k (map (mention_in text) ms)) ≡ fault_after [] (map (mention_in text) ms)

module _ (text : List ℕ) (ms : List Mention) (first : List ℕ) (numbered : Numbered (same_list (key text ms)) first (length ms)) where
  pub first_inside : (k n : ℕ) → k < length ms → length ms ≤ n → get_or first k 0 < n
  first_inside k n h room = omega (arith, first_within (key text ms) (length ms) first numbered k h)

  pub passed_none : (n : ℕ) → length ms ≤ n → Passed text ms first (replicate n 0) 0
  passed_none n room =
      record {
        entries = [];
        sized = λ j h. get_or-replicate n (get_or first j 0) 0 0 (first_inside j n h room);
        rest = refl;
      }

  module _ (sizes : List ℕ) (k : ℕ) (d : Mention) (h : k < length ms) (passed : Passed text ms first sizes k) where
    own_size : get_or sizes (get_or first k 0) 0 ≡ size_of passed.entries (name_in (mention_in text (get_or ms k d))).bytes
    own_size = passed.sized k h ∙ ap (size_of passed.entries) (key_at text ms k d h)

    left : fault_after passed.entries (mention_in text (get_or ms k d) ∷ drop (k + 1) (map (mention_in text) ms)) ≡ fault_after [] (map (mention_in text) ms)
    left =
        ap (λ (m : declarations.Mention). fault_after passed.entries (m ∷ drop (k + 1) (map (mention_in text) ms))) (sym (get_or-map (mention_in text) ms k d (mention_in text d) h))
        ∙ sym (at_drop_more (fault_after passed.entries) (map (mention_in text) ms) k (mention_in text d) (omega (arith, length-map ms (mention_in text)))) ∙ passed.rest

    pub passed_wrong : (at : ℕ) (b : Bool) → at ≡ get_or first k 0
        → ((t : List ℕ) (es : List Entry) → get_or sizes at 0 ≡ size_of es (name_in (mention_in t (get_or ms k d))).bytes → b ≡ right es (mention_in t (get_or ms k d)))
        → b ≡ false → Some (offset_of (mention_in text (get_or ms k d))) ≡ fault_after [] (map (mention_in text) ms)
    passed_wrong at b e is wrong = sym (cond-false _ _ _ (sym (is text passed.entries (ap (λ (n : ℕ). get_or sizes n 0) e ∙ own_size)) ∙ wrong)) ∙ left

    pub passed_more : (at : ℕ) (b : Bool) (s : ℕ) → at ≡ get_or first k 0
        → ((t : List ℕ) (es : List Entry) → get_or sizes at 0 ≡ size_of es (name_in (mention_in t (get_or ms k d))).bytes → b ≡ right es (mention_in t (get_or ms k d)))
        → b ≡ true
        → ((t : List ℕ) (es : List Entry) → get_or sizes at 0 ≡ size_of es (name_in (mention_in t (get_or ms k d))).bytes → right es (mention_in t (get_or ms k d)) ≡ true
        → s ≡ size_of (es ++ entry (mention_in t (get_or ms k d))) (name_in (mention_in t (get_or ms k d))).bytes)
        → k < length sizes → Passed text ms first (set sizes at s) (k + 1)
    passed_more at b s e is holds gives room =
        let es = passed.entries in
        let own = ap (λ (n : ℕ). get_or sizes n 0) e ∙ own_size in
        let fine : right es (mention_in text (get_or ms k d)) ≡ true = sym (is text es own) ∙ holds in
        subst (λ (n : ℕ). Passed text ms first (set sizes n s) (k + 1)) (sym e)
        (record {
          entries = es ++ entry (mention_in text (get_or ms k d));
          sized = sized_more (key text ms) (length ms) first numbered sizes es k s (mention_in text (get_or ms k d)) h room (key_at text ms k d h) (gives text es own fine) passed.sized;
          rest = sym (cond-true _ _ _ fine) ∙ left;
        })

  pub passed_all : (sizes : List ℕ) (k : ℕ) → length ms ≤ k → Passed text ms first sizes k → None ≡ fault_after [] (map (mention_in text) ms)
  passed_all sizes k h passed =
      ap (fault_after passed.entries) (sym (drop_all k (map (mention_in text) ms) (omega (arith, length-map ms (mention_in text))))) ∙ passed.rest
