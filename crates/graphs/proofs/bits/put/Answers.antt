use Rattle.std.proofs.Common.{◌%◌, arith}
use Rattle.graphs.proofs.Words.{put_sets}
use Rattle.std.proofs.lemmas.Nat.{one_shl, mod_below}
use Rattle.graphs.proofs.bits.put.Goals as goal

pub returns : goal.returns
returns c = rw (one_shl (c.args.v % 32) 32 (mod_below c.args.v 32 (omega arith))) (put_sets c.args.w c.args.m.now c.args.u c.args.v c.requires.row c.requires.column)
