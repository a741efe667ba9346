use Rattle.hvn.proofs.Searching.{lowest_bit_is}
use Rattle.hvn.proofs.sets.lowest_bit.Goals as goal

pub returns : goal.returns
returns c = lowest_bit_is c.args.word c.args.low c.ranges.word.fits c.requires.some
