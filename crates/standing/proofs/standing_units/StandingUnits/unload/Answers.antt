use Rattle.std.proofs.Common.{ℕ, ◌≤◌, false, List, is_some, None, sym, ap, ◌∙◌, arith}
use Rattle.std.proofs.lemmas.List.{map-set}
use Rattle.std.proofs.lemmas.Bool.{true≢false}
use Rattle.names.specs.Notes.{standing, then_note}
use Rattle.standing.specs.Knowledge.{text_of, texts_in}
use Rattle.standing.proofs.Sounds.{is_sound}
use Rattle.standing.proofs.Refusing.{text_there, unload_outside, unload_nothing, unload_accepted}
use Rattle.standing.proofs.Accepting.{stands_is, text_read, words_less, calls_less, unload_sound}
use Rattle.standing.proofs.standing_units.StandingUnits.unload.Goals as goal

pub returns-in_default : goal.returns-in_default
returns-in_default c =
    let s = is_sound c.args.self.now.sound in
    let refused = unload_outside (texts_in c.args.self.now.texts) c.args.unit (omega (arith, s.eight, c.in_default.ensures.lookup.3)) in
    record { replies = rw refused; after = rw refused; laid = λ _ laid. laid }

pub returns-in_default-slot : goal.returns-in_default-slot
returns-in_default-slot c =
    let t = c.args.self.now in
    let u = c.args.unit in
    let s = is_sound t.sound in
    let found = c.in-Some.ensures.lookup in
    let inside : u ≤ 7 = omega (arith, s.eight, found.3.0) in
    let refused = unload_nothing (texts_in t.texts) u inside (stands_is t.texts u _ found.3.0 found.1 false (ap is_some (sym c.in_default-slot.is))) in
    record { replies = rw refused; after = rw refused; laid = λ _ laid. laid }

pub forget_names-requires : goal.forget_names-requires
forget_names-requires c =
    let t = c.args.self.now in
    let found = c.in-Some.ensures.lookup in
    let there = text_there t.texts c.args.unit _ _ _ found.3.0 found.1 c.in-Some-slot.is c.as_slice-text.ensures in
    text_read (is_sound t.sound) c.args.unit _ there

pub overflow_sub-self : goal.overflow_sub-self
overflow_sub-self c =
    let t = c.args.self.now in
    let found = c.in-Some.ensures.lookup in
    let there = text_there t.texts c.args.unit _ _ _ found.3.0 found.1 c.in-Some-slot.is c.as_slice-text.ensures in
    words_less (is_sound t.sound) c.args.unit _ there _ c.count_words-words.ensures

pub overflow_sub-self-2 : goal.overflow_sub-self-2
overflow_sub-self-2 c =
    let t = c.args.self.now in
    let found = c.in-Some.ensures.lookup in
    let there = text_there t.texts c.args.unit _ _ _ found.3.0 found.1 c.in-Some-slot.is c.as_slice-text.ensures in
    calls_less (is_sound t.sound) c.args.unit _ there _ c.count_calls-calls.ensures

pub invariant_of-self : goal.invariant_of-self
invariant_of-self c =
    let t = c.args.self.now in
    let found = c.in-Some.ensures.lookup in
    let there = text_there t.texts c.args.unit _ _ _ found.3.0 found.1 c.in-Some-slot.is c.as_slice-text.ensures in
    let swept = λ (n : List ℕ). c.sweep.ensures.after n ∙ ap (λ (f : List ℕ → _). then_note standing (f n)) c.forget_names.ensures in
    record { sound = ∣ unload_sound (is_sound t.sound) c.args.unit _ there c.sweep.new.self _ _ swept c.count_words-words.ensures c.count_calls-calls.ensures ∣₁ }

pub returns : goal.returns
returns c =
    let t = c.args.self.now in
    let u = c.args.unit in
    let found = c.in-Some.ensures.lookup in
    let there = text_there t.texts u _ _ _ found.3.0 found.1 c.in-Some-slot.is c.as_slice-text.ensures in
    let inside : u ≤ 7 = omega (arith, (is_sound t.sound).eight, found.3.0) in
    let done = unload_accepted (texts_in t.texts) u inside (ap is_some there) in
    record {
      replies = rw done;
      after = rw done (map-set text_of t.texts u None);
      laid = λ e laid. absurd (true≢false e);
    }
