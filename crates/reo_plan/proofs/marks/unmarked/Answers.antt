use Rattle.std.proofs.Common.{⊎_elim, inl, inr}
use Rattle.reo_plan.proofs.MarkLemmas.{bit_of_both, left_or_met, met_passes}
use Rattle.reo_plan.proofs.marks.unmarked.Goals as goal

pub returns-clause-left : goal.returns-clause-left
returns-clause-left c = λ p misses j is.
    ⊎_elim (λ met. inl (met_passes p c.args.met j misses met)) (λ left. inr left) (left_or_met c.args.mask c.args.met c.ranges.mask.fits c.ranges.met.fits j is)

pub returns-clause-within : goal.returns-clause-within
returns-clause-within c = λ j is. bit_of_both c.args.mask _ j is
