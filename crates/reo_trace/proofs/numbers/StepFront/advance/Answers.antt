use Rattle.std.proofs.Common.{codes, arith}
use Rattle.reo_trace.proofs.DigitLemmas.{next_digit}
use Rattle.reo_trace.proofs.numbers.StepFront.advance.Goals as goal

pub invariant_of-self : goal.invariant_of-self
invariant_of-self c =
    (c.self.invariant.0, next_digit (codes "step ") c.self.inside.bytes c.self.inside.start c.self.inside.number c.self.invariant.0 (omega (arith, c.self.told)) (omega (arith, c.requires, c.self.view_is)) c.self.invariant.1 c.if-last-lt57.true)
