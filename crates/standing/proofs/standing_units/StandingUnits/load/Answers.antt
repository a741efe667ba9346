use Rattle.std.proofs.Common.{◌+◌, ◌≤◌, true, false, set, Some, sym, ap, ◌∙◌, arith}
use Rattle.std.proofs.lemmas.List.{map-set}
use Rattle.std.proofs.lemmas.Result.{err_from_is_err_and}
use Rattle.std.proofs.lemmas.Bool.{true≢false}
use Rattle.grammar.proofs.Reading.{read_whole}
use Rattle.standing.specs.Knowledge.{text_of, texts_in}
use Rattle.standing.specs.States.{LaidOut}
use Rattle.standing.proofs.Sounds.{is_sound}
use Rattle.standing.proofs.Refusing.{refused_verdict, accepted, load_outside, load_stands, load_text, load_clash, load_variables, load_words, load_calls, load_accepted, words_over, words_within, calls_over, calls_within}
use Rattle.standing.proofs.Accepting.{stands_is, clash_is, word_total, call_total, variables_over, variables_fit, load_sound}
use Rattle.standing.proofs.standing_units.StandingUnits.load.Goals as goal

pub returns-in_default : goal.returns-in_default
returns-in_default c =
    let s = is_sound c.args.self.now.sound in
    let refused = load_outside (texts_in c.args.self.now.texts) c.args.unit c.args.text.now (omega (arith, s.eight, c.in_default.ensures.lookup.3)) in
    record { replies = rw refused; after = rw refused; laid = λ _ laid. laid }

pub returns-then-is_some : goal.returns-then-is_some
returns-then-is_some c =
    let t = c.args.self.now in
    let u = c.args.unit in
    let text = c.args.text.now in
    let s = is_sound t.sound in
    let found = c.in-Some.ensures.lookup in
    let inside : u ≤ 7 = omega (arith, s.eight, found.3.0) in
    let refused = load_stands (texts_in t.texts) u text inside (stands_is t.texts u _ found.3.0 found.1 true c.if-is_some.ensures) in
    record { replies = rw refused; after = rw refused; laid = λ _ laid. laid }

pub returns-in_err-check_unit : goal.returns-in_err-check_unit
unfolding LaidOut
returns-in_err-check_unit c =
    let t = c.args.self.now in
    let u = c.args.unit in
    let text = c.args.text.now in
    let s = is_sound t.sound in
    let found = c.in-Some.ensures.lookup in
    let inside : u ≤ 7 = omega (arith, s.eight, found.3.0) in
    let free = stands_is t.texts u _ found.3.0 found.1 false c.if-is_some.ensures in
    let refused = load_text (texts_in t.texts) u text inside free _ (refused_verdict text _ c.in_err-check_unit.ensures.verdict) in
    let p = err_from_is_err_and c.from_residual.result c.from_residual.ensures.1 in
    record { replies = rw (p.1, p.2, refused); after = rw refused; laid = λ _ laid. laid }

pub returns-in_err-try_from : goal.returns-in_err-try_from
returns-in_err-try_from c =
    let text = c.args.text.now in
    let few = (read_whole text (accepted text c.in_ok-check_unit.ensures.verdict).admitted).few in
    absurd (omega (arith, few, c.in_err-try_from.ensures.0))

pub returns-in-Some-first_clash : goal.returns-in-Some-first_clash
unfolding LaidOut
returns-in-Some-first_clash c =
    let t = c.args.self.now in
    let u = c.args.unit in
    let text = c.args.text.now in
    let s = is_sound t.sound in
    let found = c.in-Some.ensures.lookup in
    let inside : u ≤ 7 = omega (arith, s.eight, found.3.0) in
    let free = stands_is t.texts u _ found.3.0 found.1 false c.if-is_some.ensures in
    let fine = accepted text c.in_ok-check_unit.ensures.verdict in
    let refused = load_clash (texts_in t.texts) u text inside free fine.fine _ (clash_is s u text inside free fine _ c.in-Some-first_clash.ensures) in
    record { replies = rw (c.locate.ensures, refused); after = rw refused; laid = λ _ laid. laid }

pub returns-in_err-enter_names : goal.returns-in_err-enter_names
unfolding LaidOut
returns-in_err-enter_names c =
    let t = c.args.self.now in
    let u = c.args.unit in
    let text = c.args.text.now in
    let s = is_sound t.sound in
    let found = c.in-Some.ensures.lookup in
    let inside : u ≤ 7 = omega (arith, s.eight, found.3.0) in
    let free = stands_is t.texts u _ found.3.0 found.1 false c.if-is_some.ensures in
    let fine = accepted text c.in_ok-check_unit.ensures.verdict in
    let clear = clash_is s u text inside free fine _ c.in_default-first_clash.ensures in
    let over = variables_over s u text inside free fine clear (sym c.in_err-enter_names.ensures.fits) in
    let refused = load_variables (texts_in t.texts) u text inside free fine.fine clear over in
    let p = err_from_is_err_and c.from_residual-in_err-enter_names.result c.from_residual-in_err-enter_names.ensures.1 in
    record { replies = rw (p.1, p.2, refused); after = rw refused; laid = λ _ laid. laid }

pub overflow_sub-self : goal.overflow_sub-self
overflow_sub-self c = let s = is_sound c.args.self.now.sound in omega (arith, s.words_counted, s.book.few_words)

pub returns-then-words-self : goal.returns-then-words-self
unfolding LaidOut
returns-then-words-self c =
    let t = c.args.self.now in
    let u = c.args.unit in
    let text = c.args.text.now in
    let s = is_sound t.sound in
    let found = c.in-Some.ensures.lookup in
    let inside : u ≤ 7 = omega (arith, s.eight, found.3.0) in
    let free = stands_is t.texts u _ found.3.0 found.1 false c.if-is_some.ensures in
    let fine = accepted text c.in_ok-check_unit.ensures.verdict in
    let clear = clash_is s u text inside free fine _ c.in_default-first_clash.ensures in
    let fits = sym c.in_ok-enter_names.ensures.fits in
    let fit = variables_fit s u text inside free fine clear fits in
    let over = words_over _ _ (word_total s u text inside free fine _ c.count_words-words.ensures) (omega arith) in
    let refused = load_words (texts_in t.texts) u text inside free fine.fine clear fit over in
    record { replies = rw refused; after = rw refused; laid = λ _ laid. laid }

pub overflow_sub-self-2 : goal.overflow_sub-self-2
overflow_sub-self-2 c = let s = is_sound c.args.self.now.sound in omega (arith, s.calls_counted, s.book.few_calls)

pub returns-then-calls-self : goal.returns-then-calls-self
unfolding LaidOut
returns-then-calls-self c =
    let t = c.args.self.now in
    let u = c.args.unit in
    let text = c.args.text.now in
    let s = is_sound t.sound in
    let found = c.in-Some.ensures.lookup in
    let inside : u ≤ 7 = omega (arith, s.eight, found.3.0) in
    let free = stands_is t.texts u _ found.3.0 found.1 false c.if-is_some.ensures in
    let fine = accepted text c.in_ok-check_unit.ensures.verdict in
    let clear = clash_is s u text inside free fine _ c.in_default-first_clash.ensures in
    let fits = sym c.in_ok-enter_names.ensures.fits in
    let fit = variables_fit s u text inside free fine clear fits in
    let few_words = words_within _ _ (word_total s u text inside free fine _ c.count_words-words.ensures) (omega arith) in
    let over = calls_over _ _ (call_total s u text inside free fine _ c.count_calls-calls.ensures) (omega arith) in
    let refused = load_calls (texts_in t.texts) u text inside free fine.fine clear fit few_words over in
    record { replies = rw refused; after = rw refused; laid = λ _ laid. laid }

pub invariant_of-self-2 : goal.invariant_of-self-2
invariant_of-self-2 c =
    let t = c.args.self.now in
    let u = c.args.unit in
    let text = c.args.text.now in
    let s = is_sound t.sound in
    let found = c.in-Some.ensures.lookup in
    let inside : u ≤ 7 = omega (arith, s.eight, found.3.0) in
    let free = stands_is t.texts u _ found.3.0 found.1 false c.if-is_some.ensures in
    let fine = accepted text c.in_ok-check_unit.ensures.verdict in
    let clear = clash_is s u text inside free fine _ c.in_default-first_clash.ensures in
    let fits = sym c.in_ok-enter_names.ensures.fits in
    let fit = variables_fit s u text inside free fine clear fits in
    let few_words : t.words + c.count_words-words.result ≤ 512 = omega (arith, s.words_counted, s.book.few_words) in
    let few_calls : t.calls + c.count_calls-calls.result ≤ 64 = omega (arith, s.calls_counted, s.book.few_calls) in
    let entered = c.in_ok-enter_names.ensures.after (c.in_ok-enter_names.ensures.fits ∙ fits) in
    record { sound = ∣ load_sound s u text inside free fine clear fits c.in_ok-try_from.field-0 c.enter_names.new.names _ _ c.in_ok-try_from.ensures.1 entered c.count_words-words.ensures c.count_calls-calls.ensures few_words few_calls ∣₁ }

pub returns : goal.returns
returns c =
    let t = c.args.self.now in
    let u = c.args.unit in
    let text = c.args.text.now in
    let s = is_sound t.sound in
    let found = c.in-Some.ensures.lookup in
    let inside : u ≤ 7 = omega (arith, s.eight, found.3.0) in
    let free = stands_is t.texts u _ found.3.0 found.1 false c.if-is_some.ensures in
    let fine = accepted text c.in_ok-check_unit.ensures.verdict in
    let clear = clash_is s u text inside free fine _ c.in_default-first_clash.ensures in
    let fits = sym c.in_ok-enter_names.ensures.fits in
    let fit = variables_fit s u text inside free fine clear fits in
    let few_words : t.words + c.count_words-words.result ≤ 512 = omega (arith, s.words_counted, s.book.few_words) in
    let few_calls : t.calls + c.count_calls-calls.result ≤ 64 = omega (arith, s.calls_counted, s.book.few_calls) in
    let done = load_accepted (texts_in t.texts) u text inside free fine.fine clear fit
    (words_within _ _ (word_total s u text inside free fine _ c.count_words-words.ensures) few_words)
    (calls_within _ _ (call_total s u text inside free fine _ c.count_calls-calls.ensures) few_calls) in
    record {
      replies = rw done;
      after = rw done (map-set text_of t.texts u (Some c.in_ok-try_from.field-0) ∙ ap (λ x. set (texts_in t.texts) u (Some x)) c.in_ok-try_from.ensures.1);
      laid = λ e laid. absurd (true≢false e);
    }
