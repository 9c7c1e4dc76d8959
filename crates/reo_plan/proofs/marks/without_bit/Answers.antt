use Rattle.std.proofs.Common.{◌≡◌, ◌-◌, sym, subst}
use Rattle.std.specs.Int.{bit_at}
use Rattle.std.specs.Int.RustNames.{bit_and}
use Rattle.std.proofs.lemmas.Nat.{and_le_l}
use Rattle.reo_plan.proofs.MarkLemmas.{own_cleared, other_kept}
use Rattle.reo_plan.proofs.marks.without_bit.Goals as goal

pub returns-clause-own : goal.returns-clause-own
returns-clause-own c = subst (λ b. bit_at (bit_and c.args.word (18446744073709551615 - b)) c.args.number ≡ 0) (sym c.bit.ensures) (own_cleared c.args.word c.args.number c.requires)

pub returns-clause-others : goal.returns-clause-others
returns-clause-others c = λ j other.
    subst (λ b. bit_at (bit_and c.args.word (18446744073709551615 - b)) j ≡ bit_at c.args.word j) (sym c.bit.ensures) (other_kept c.args.word c.args.number c.requires c.ranges.word.fits j other)

pub returns-clause-less : goal.returns-clause-less
returns-clause-less c = and_le_l c.args.word _
