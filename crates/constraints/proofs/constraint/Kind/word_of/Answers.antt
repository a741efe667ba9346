use Rattle.std.proofs.Common.{◌≡◌, refl, arith}
use denote.Enum.Declared.{tag_of}
use Rattle.constraints.specs.contracts.constraint.Kind.{the_type}
use Rattle.constraints.specs.Encoding.{kind_number}
use Rattle.constraints.specs.declared.constraint.Kind.{Kind}
use Rattle.constraints.specs.declared.constraint.Kind.TheVariants as Kinds
use Rattle.constraints.proofs.Encoding.{written_some, written_none}
use Rattle.constraints.proofs.constraint.Kind.word_of.Goals as goal

tag_is : (k : Kind) → tag_of the_type k ≡ kind_number k
tag_is Kinds.Address = refl
tag_is Kinds.Copy = refl
tag_is Kinds.Load = refl
tag_is Kinds.Store = refl

pub returns-then-offset-lt8 : goal.returns-then-offset-lt8
returns-then-offset-lt8 c =
    rw (tag_is c.args.self, c.from.ensures, c.from-then-offset-lt8.ensures, c.from-then-offset-lt8-2.ensures) (written_some (kind_number c.args.self) c.args.left c.args.offset c.args.right (omega arith) (omega arith) (omega arith))

pub returns-else-left-lt4096 : goal.returns-else-left-lt4096
returns-else-left-lt4096 c =
    written_none (kind_number c.args.self) c.args.left c.args.offset c.args.right (λ (l, r, k). omega (arith, c.else-left-lt4096.either))
