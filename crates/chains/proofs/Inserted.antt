-- What it leaves to link a cell in: a sound store with one pair more.
use Rattle.std.proofs.Common.{◌≡◌, ℕ, ◌+◌, ◌<◌, true, false, ◌⊎◌, is_some, List, Some, None, Option, length, drop, set, sym, refl, ap, ◌∙◌, subst, subst₂, ⊎_elim, arith}
use Rattle.std.proofs.lemmas.Bool.{cases_eq, eqb-false, ne_eqb, false≢true}
use Rattle.std.proofs.lemmas.List.{get_or-set_same, get_or-set_other, length-set, drop-set-lt}
use Rattle.chains.specs.declared.Cell.{Cell}
use Rattle.constraints.specs.Rows.{with_pair}
use Rattle.chains.specs.Cells.{end, cell_of, link_to, cell_at, link_of, object_of, reach, head_of, chain_pairs, chain_room, chain_spare, numbers, Placed, Sound, put_cell, linked_in, Spliced}
use Rattle.chains.proofs.Reach.{none_some, above_cell}
use Rattle.chains.proofs.Chained.{pair_in_row, place_reach}
use Rattle.chains.proofs.Splice.{spliced_pairs, spliced_sound}

abbrev blank : Cell
blank = record { object = 0; link = 0 }

module _ (cs : List Cell) (hs : List (Option ℕ)) (used v o : ℕ) (before after : Option ℕ)
    (sound : Sound cs hs used) (hv : v < 256) (ho : o < 256)
    (placed : Placed cs (head_of hs v) o before after) (new : chain_pairs cs hs v o ≡ false)
    (few : used < chain_room cs) where
  -- the cells ds and the heads gs hold one pair more
  abbrev pub Added : List Cell → List (Option ℕ) → Type 0
  Added ds gs =
      Sound ds gs (used + 1) × (chain_pairs ds gs ≡ with_pair (chain_pairs cs hs) v o)
      × (chain_room ds ≡ chain_room cs) × (chain_spare ds ≡ chain_spare cs)

  after_differs : object_of cs after ≡ o → ⊥
  after_differs e =
      let at = ap (object_of cs) (place_reach cs (head_of hs v) o before after placed) in
      eqb-false (object_of cs (reach cs (head_of hs v) o)) o (sym (pair_in_row cs hs v hv o ho) ∙ new) (at ∙ e)

  added : (ds : List Cell) (gs : List (Option ℕ)) → Spliced cs ds hs gs used v o before after → length ds ≡ length cs → length gs ≡ 256
      → drop (chain_room cs) ds ≡ drop (chain_room cs) cs → Added ds gs
  added ds gs spliced same rows rest = (
    spliced_sound cs ds hs gs used v o before after sound hv ho placed after_differs few spliced same rows,
    spliced_pairs cs ds hs gs used v o before after sound hv ho placed after_differs few spliced,
    rw same refl,
    rw same (ap numbers rest),
  )

  -- the link to a cell of a row leads there
  leads : (i : Option ℕ) → i ≡ reach cs (head_of hs v) o → cell_of (link_to i) ≡ i
  leads None e = refl
  leads (Some j) e =
      let inside = (sound.rising v hv o (omega arith)).1 j (sym e) in
      rw (ne_eqb j end (omega arith)) refl

  after_real : cell_of (link_to after) ≡ after
  after_real = leads after (sym (place_reach cs (head_of hs v) o before after placed))

  used_real : cell_of used ≡ Some used
  used_real = rw (ne_eqb used end (omega arith)) refl

  abbrev fresh : Cell
  fresh = record { object = o; link = link_to after }

  abbrev base : List Cell
  base = put_cell cs after used o

  fresh_at : cell_at base used ≡ fresh
  fresh_at = get_or-set_same cs used fresh blank (omega arith)

  others_at : (j : ℕ) → (j ≡ used → ⊥) → cell_at base j ≡ cell_at cs j
  others_at j ne = get_or-set_other cs used j fresh blank ne

  base_rest : drop (chain_room cs) base ≡ drop (chain_room cs) cs
  base_rest = drop-set-lt (chain_room cs) cs used fresh few

  base_objects : (i : Option ℕ) → (i ≡ Some used → ⊥) → object_of base i ≡ object_of cs i
  base_objects None nu = refl
  base_objects (Some j) nu = ap (λ x. x.object) (others_at j (λ e. nu (ap Some e)))

  base_links : (i : Option ℕ) → (i ≡ Some used → ⊥) → link_of base i ≡ link_of cs i
  base_links None nu = refl
  base_links (Some j) nu = ap (λ x. cell_of x.link) (others_at j (λ e. nu (ap Some e)))

  added_first : before ≡ None → Added (linked_in cs before after used o) (set hs v (Some used))
  added_first is_none = subst (λ b. Added (linked_in cs b after used o) (set hs v (Some used))) (sym is_none)
      (added base (set hs v (Some used))
      (record {
        object = ap (λ x. x.object) fresh_at;
        link = ap (λ x. cell_of x.link) fresh_at ∙ after_real;
        objects = base_objects;
        links = λ i nu nb. base_links i nu;
        heads = λ w ne. get_or-set_other hs v w (Some used) None ne;
        first = λ _. get_or-set_same hs v (Some used) None (omega (arith, sound.rows));
        later = λ ne. absurd (ne is_none);
      })
      (length-set cs used fresh)
      (length-set hs v (Some used) ∙ sound.rows)
      base_rest)

  module _ (b : ℕ) (is : before ≡ Some b) where
    not_none : before ≡ None → ⊥
    not_none e = none_some (sym e ∙ is)

    before_used : b < used
    before_used =
        let low : object_of cs before < o = omega (arith, placed.low, above_cell cs before not_none) in
        ((sound.rising v hv (object_of cs before) (omega arith)).1 b (placed.prior not_none ∙ is)).0

    abbrev relinked : Cell
    relinked = record { object = (cell_at base b).object; link = used }

    abbrev both : List Cell
    both = set base b relinked

    before_at : cell_at both b ≡ relinked
    before_at = get_or-set_same base b relinked blank (simp length-set (let l = before_used in omega arith))

    elsewhere : (j : ℕ) → (j ≡ b → ⊥) → cell_at both j ≡ cell_at base j
    elsewhere j nb = get_or-set_other base b j relinked blank nb

    fresh_cell : cell_at both used ≡ fresh
    fresh_cell = elsewhere used (let l = before_used in omega arith) ∙ fresh_at

    objects_kept : (i : Option ℕ) → (i ≡ Some used → ⊥) → object_of both i ≡ object_of cs i
    objects_kept None nu = refl
    objects_kept (Some j) nu = ⊎_elim
        (λ e. rw e (ap (λ x. x.object) before_at) ∙ base_objects (Some j) nu)
        (λ nb. ap (λ x. x.object) (elsewhere j nb) ∙ base_objects (Some j) nu)
        (cases_eq j b)

    links_kept : (i : Option ℕ) → (i ≡ Some used → ⊥) → (i ≡ before → ⊥) → link_of both i ≡ link_of cs i
    links_kept None nu nb = refl
    links_kept (Some j) nu nb = ap (λ x. cell_of x.link) (elsewhere j (λ e. nb (ap Some e ∙ sym is))) ∙ base_links (Some j) nu

    added_later : Added (linked_in cs before after used o) hs
    added_later = subst (λ i. Added (linked_in cs i after used o) hs) (sym is)
        (added both hs
        (record {
          object = ap (λ x. x.object) fresh_cell;
          link = ap (λ x. cell_of x.link) fresh_cell ∙ after_real;
          objects = objects_kept;
          links = links_kept;
          heads = λ w _. refl;
          first = λ e. absurd (not_none e);
          later = λ _. (ap (link_of both) is ∙ ap (λ x. cell_of x.link) before_at ∙ used_real, refl);
        })
        (length-set base b relinked ∙ length-set cs used fresh)
        sound.rows
        (drop-set-lt (chain_room cs) base b relinked (let l = before_used in omega arith) ∙ base_rest))

  if_none : (i : Option ℕ) → is_some i ≡ false → i ≡ None
  if_none None e = refl
  if_none (Some b) e = absurd (false≢true (sym e))

  if_some : (i : Option ℕ) → is_some i ≡ true → (b : ℕ) × (i ≡ Some b)
  if_some None e = absurd (false≢true e)
  if_some (Some b) e = (b, refl)

  -- the heads gs are those that belong to the place
  abbrev pub Headed : List (Option ℕ) → Type 0
  Headed gs = ((is_some before ≡ false) × (gs ≡ set hs v (Some used))) ⊎ ((is_some before ≡ true) × (gs ≡ hs))

  pub added_in : (ds : List Cell) (gs : List (Option ℕ)) → ds ≡ linked_in cs before after used o → Headed gs → Added ds gs
  added_in ds gs cells headed = ⊎_elim
      (λ h. subst₂ Added (sym cells) (sym h.1) (added_first (if_none before h.0)))
      (λ h. let found = if_some before h.0 in subst₂ Added (sym cells) (sym h.1) (added_later found.0 found.1))
      headed
