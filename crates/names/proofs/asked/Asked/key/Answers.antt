use Rattle.std.proofs.Common.{◌≡◌, ◌<◌, [], ◌∷◌, length, sym, ap, ◌∙◌, arith}
use Rattle.std.proofs.lemmas.List.{get_or_append_left, get_or_push, length-map}
use Rattle.names.specs.Notes.{name_in}
use Rattle.names.proofs.Records.{names_of, key_in}
use Rattle.names.proofs.asked.Asked.key.Goals as goal

pub returns-in-Some : goal.returns-in-Some
returns-in-Some c =
    let rs = c.args.self.now.records.now in
    let i = c.args.i in
    let found = c.in-Some.ensures.lookup in
    let long = length-map rs name_in in
    let h : i < length rs = found.3.0 in
    let within : i < length (names_of rs) = omega arith in
    c.name.ensures ∙ ap name_in found.1 ∙ sym (key_in rs i c.in-Some.record.now h)
    ∙ sym (get_or_append_left (names_of rs) (c.args.self.now.name.now ∷ []) [] i within)

pub returns-in-None : goal.returns-in-None
returns-in-None c =
    let rs = c.args.self.now.records.now in
    let long = length-map rs name_in in
    let last : length (names_of rs) ≡ c.args.i = omega (arith, c.requires, c.in-None.ensures.lookup.3) in
    sym (get_or_push (names_of rs) c.args.self.now.name.now [] c.args.i last)
