-- The places of a call's arguments. Assumes nothing.
use Rattle.std.specs.Prelude.{List, take}
use Rattle.grammar.specs.declared.item.Place.{Place}
use Rattle.grammar.specs.declared.item.Arguments.{Arguments}

abbrev pub given : Arguments → List Place
given a = take a.count a.places
