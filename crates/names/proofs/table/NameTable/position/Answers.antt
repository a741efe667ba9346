use Rattle.std.proofs.Common.{◌%◌, get_or, None, sym, ap, ◌∙◌, subst, arith}
use Rattle.std.proofs.lemmas.Nat.{mod_below}
use Rattle.numbering.specs.Keys.{Latest, Entry}
use Rattle.names.specs.Index.{same_key, hash_key, with_asked}
use Rattle.names.specs.Held.{held}
use Rattle.names.proofs.Sounds.{is_sound, asked_headed, asked_linked, looked_up}
use Rattle.names.proofs.table.NameTable.position.Goals as goal

pub lookup-requires-clause-linked : goal.lookup-requires-clause-linked
lookup-requires-clause-linked c = asked_linked (is_sound c.args.self.now.sound) c.args.name.now

pub lookup-requires-clause-headed : goal.lookup-requires-clause-headed
lookup-requires-clause-headed c =
    let t = c.args.self.now in
    let n = c.args.name.now in
    let ks = with_asked (held t) n in
    let b = hash_key ks t.used % 256 in
    subst (λ h. Latest (Entry (same_key ks) (hash_key ks) b) t.used (get_or t.heads h None)) (sym (c.bucket_of-bucket.ensures ∙ ap (λ h. h % 256) c.hash.ensures))
    (asked_headed (is_sound t.sound) n b (mod_below (hash_key ks t.used) 256 (omega arith)))

pub returns : goal.returns
returns c = looked_up (is_sound c.args.self.now.sound) c.args.name.now c.lookup.result c.map.result c.lookup.ensures c.map.ensures.cases
