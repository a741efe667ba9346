-- The book of a history. It is fed the calls' arguments and no reply.
use Rattle.std.specs.Prelude.{List, [], ◌∷◌}
use Rattle.engine.specs.Meanings.{Rule}
use Rattle.host_analyser.specs.Books.{Book, load_book, unload_book, settle_book}
use Rattle.histories.specs.declared.call.Call.{Call}
use Rattle.histories.specs.declared.call.Call.TheVariants.{Settle, Load, Unload, Ask, Targets}

-- the book after a call: from the call's arguments alone
abbrev pub next_book : Rule → Book → Call → Book
next_book rule b Settle = settle_book rule b
next_book rule b (Load u t) = load_book b u t.now
next_book rule b (Unload u) = unload_book b u
next_book rule b (Ask q) = b
next_book rule b (Targets u i buffer) = b

-- the book after some calls
abbrev pub book_from : Rule → Book → List Call → Book
book_from rule b [] = b
book_from rule b (c ∷ cs) = book_from rule (next_book rule b c) cs
