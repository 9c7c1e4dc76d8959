use Rattle.std.proofs.Common.{not, ap, ◌∙◌}
use Rattle.reo_plan.proofs.marks.mark.Goals as goal

pub returns-then-is_so : goal.returns-then-is_so
returns-then-is_so c = λ p is are. record {
  met = c.with_bit-marks.ensures.adds (λ j. not (p j)) are.met (ap (λ b. not (not b)) (is ∙ c.if-is_so.true));
  failed = are.failed;
}
