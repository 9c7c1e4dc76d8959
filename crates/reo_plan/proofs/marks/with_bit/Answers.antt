use Rattle.std.proofs.Common.{◌≡◌, sym, subst}
use Rattle.std.specs.Int.{bit_at}
use Rattle.std.specs.Int.RustNames.{bit_and, bit_or}
use Rattle.reo_plan.specs.inside.Marks.{Misses}
use Rattle.reo_plan.proofs.MarkLemmas.{misses_more, shares_none, bit_sets, bit_stays}
use Rattle.reo_plan.proofs.marks.with_bit.Goals as goal

pub returns-then-number-lt64-clause-misses : goal.returns-then-number-lt64-clause-misses
returns-then-number-lt64-clause-misses c = λ p other misses passes apart.
    subst (λ b. bit_and other (bit_or c.args.word b) ≡ 0) (sym c.bit.ensures) (shares_none p other c.args.word c.args.number misses passes apart)

pub returns-then-number-lt64-clause-adds : goal.returns-then-number-lt64-clause-adds
returns-then-number-lt64-clause-adds c = λ p misses fails. subst (λ b. Misses p (bit_or c.args.word b)) (sym c.bit.ensures) (misses_more p c.args.word c.args.number misses fails)

pub returns-then-number-lt64-clause-sets : goal.returns-then-number-lt64-clause-sets
returns-then-number-lt64-clause-sets c = λ small. subst (λ b. bit_at (bit_or c.args.word b) c.args.number ≡ 1) (sym c.bit.ensures) (bit_sets c.args.word c.args.number)

pub returns-then-number-lt64-clause-keeps : goal.returns-then-number-lt64-clause-keeps
returns-then-number-lt64-clause-keeps c = λ j is. bit_stays c.args.word c.bit.result j is
