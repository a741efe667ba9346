use Rattle.std.proofs.Common.{◌≡◌, map, take}
use Rattle.grammar.specs.Meanings.{place_in, callee_in}
use Rattle.units.specs.Words.{word}
use Rattle.units.specs.Statements.{argument_words}
use Rattle.units.proofs.words.Reader.call_words.Given as goal

abbrev pub invariant-loop-j : goal.invariant-loop-j
invariant-loop-j g l =
    l.words.items
    ≡ map (word (g.N.FirstVariables.first l.self.names.now)) (argument_words (callee_in l.self.text.now l.fn.call.callee) 2 (map (place_in l.self.text.now) (take l.j l.argument-items)))
