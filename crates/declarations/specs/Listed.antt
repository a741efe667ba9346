-- The mentions that a check has noted. Assumes nothing.
use Rattle.std.specs.Prelude.{List, take}
use Rattle.declarations.specs.declared.mention.Mention.{Mention}
use Rattle.declarations.specs.declared.mentions.Mentions.{Mentions}

abbrev pub listed : Mentions → List Mention
listed ms = take ms.count ms.items
