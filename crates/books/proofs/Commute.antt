-- Two loads that are accepted one after the other are accepted the other way round.
use Rattle.std.proofs.Common.{◌≡◌, ℕ, zero, suc, ◌<◌, ◌≤◌, false, ltb, List, [], ◌∷◌, length, get_or, set, Some, None, sym, refl, ◌∙◌, subst, inl, inr, not-suc-le-zero, arith}
use Rattle.std.proofs.lemmas.List.{length-set, get_or-set_other, set_comm}
use Rattle.std.proofs.lemmas.Bool.{ltb-false, le-ltb}
use Rattle.books.specs.Members.{◌∈◌, ◌⊆◌}
use Rattle.books.specs.Books.{Units, standing, words, indirect_calls}
use Rattle.books.specs.Loads.{too_many_variables, too_many_words, too_many_calls, LoadsCommute}
use Rattle.books.proofs.Options.{some_none}
use Rattle.books.proofs.Loads.{agree_back, clear_agrees, agrees_clear, stood, load_adds, load_agrees, fewer_then}

-- a text entered under a free number stands, and the others stay
pub stays : (units : Units) (u : ℕ) (s : List ℕ) → get_or units u None ≡ None → standing units ⊆ standing (set units u (Some s))
stays [] u s e t h = h
stays (None ∷ units) zero s e t h = inr h
stays (Some r ∷ units) zero s e t h = absurd (some_none e)
stays (None ∷ units) (suc u) s e t h = stays units u s e t h
stays (Some r ∷ units) (suc u) s e t (inl same) = inl same
stays (Some r ∷ units) (suc u) s e t (inr h) = inr (stays units u s e t h)

pub enters : (units : Units) (u : ℕ) (s : List ℕ) → u < length units → s ∈ standing (set units u (Some s))
enters [] u s lt = absurd (not-suc-le-zero lt)
enters (None ∷ units) zero s lt = inl refl
enters (Some r ∷ units) zero s lt = inl refl
enters (None ∷ units) (suc u) s lt = enters units u s (omega arith)
enters (Some r ∷ units) (suc u) s lt = inr (enters units u s (omega arith))

within_limit : (limit n m : ℕ) → n ≤ m → ltb limit m ≡ false → ltb limit n ≡ false
within_limit limit n m le small = le-ltb limit n (omega (arith, ltb-false limit m small))

pub loads_commute : LoadsCommute
unfolding too_many_variables too_many_words too_many_calls
loads_commute units u v s t book apart first second =
    let some : Units = set units v (Some t) in
    let one : Units = set units u (Some s) in
    let at_v : get_or one v None ≡ get_or units v None = get_or-set_other units u v (Some s) None (λ same. apart (sym same)) in
    let at_u : get_or some u None ≡ get_or units u None = get_or-set_other units v u (Some t) None apart in
    let swap : set some u (Some s) ≡ set one v (Some t) = set_comm units v u (Some t) (Some s) (λ same. apart (sym same)) in
    let v_in : v < length units = omega (arith, second.number_in, length-set units u (Some s)) in
    let u_in : u < length some = omega (arith, first.number_in, length-set units v (Some t)) in
    let free : get_or some u None ≡ None = at_u ∙ first.free in
    let all = standing (set one v (Some t)) in
    let agreed = load_agrees one v t (load_agrees units u s book.agreed first.no_clash) second.no_clash in
    let sub : standing some ⊆ all = subst (λ x. standing some ⊆ standing x) swap (stays some u s free) in
    let more = load_adds some u s u_in free in (
      record {
        number_in = v_in;
        free = sym at_v ∙ second.free;
        faultless = second.faultless;
        no_clash = agrees_clear (standing units) t second.faultless (λ x x_in.
            clear_agrees (standing one) t x second.no_clash (stays units u s first.free x x_in));
        variables_in = within_limit 256 _ _ (fewer_then (standing some) all agreed sub) second.variables_in;
        words_in = within_limit 512 (length (words (standing some))) (length (words (standing (set some u (Some s))))) (omega (arith, more.word_count))
            (rw swap second.words_in);
        calls_in = within_limit 64 (length (indirect_calls (standing some))) (length (indirect_calls (standing (set some u (Some s)))))
            (omega (arith, more.call_count)) (rw swap second.calls_in);
      },
      record {
        number_in = u_in;
        free = free;
        faultless = first.faultless;
        no_clash = agrees_clear (standing some) s first.faultless (λ x x_in.
            elim (stood units v t x x_in) [
              | inl is_t ↦ rw is_t (agree_back s t (clear_agrees (standing one) t s second.no_clash (enters units u s first.number_in)))
              | inr h ↦ clear_agrees (standing units) s x first.no_clash h
            ]);
        variables_in = rw swap second.variables_in;
        words_in = rw swap second.words_in;
        calls_in = rw swap second.calls_in;
      },
    )
