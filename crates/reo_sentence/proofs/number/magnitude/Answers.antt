use Rattle.std.proofs.Common.{◌∙◌}
use Rattle.reo_sentence.proofs.SeenLemmas.{grows_too_large, digits-step}
use Rattle.reo_sentence.proofs.number.magnitude.Goals as goal

pub returns-then-value : goal.returns-then-value
returns-then-value c = grows_too_large _ _ _ c.loop-digit.invariant c.loop-digit-test.true c.if-value.true

pub loop-digit-preserved : goal.loop-digit-preserved
loop-digit-preserved c = digits-step _ _ _ _ c.loop-digit.invariant c.loop-digit-test.true (c.from.ensures ∙ c.saturating_sub.ensures)
