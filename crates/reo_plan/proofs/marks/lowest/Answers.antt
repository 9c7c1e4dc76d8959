use Rattle.std.specs.Int.{w64}
use Rattle.std.proofs.lemmas.Nat.Bits.{bit_at-trailing_zeros}
use Rattle.reo_plan.proofs.ColumnLemmas.{above_none}
use Rattle.reo_plan.proofs.marks.lowest.Goals as goal

pub returns-clause-small : goal.returns-clause-small
returns-clause-small c = (bit_at-trailing_zeros w64 c.args.word (above_none c.args.word c.requires) c.ranges.word.fits).0

pub returns-clause-bit : goal.returns-clause-bit
returns-clause-bit c = (bit_at-trailing_zeros w64 c.args.word (above_none c.args.word c.requires) c.ranges.word.fits).1
