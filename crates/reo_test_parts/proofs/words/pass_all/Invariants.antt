use Rattle.reo_test_parts.specs.Ring.{CanPass}
use Rattle.reo_test_parts.proofs.words.pass_all.Given as goal

abbrev pub invariant-loop : goal.invariant-loop
invariant-loop l = CanPass l.words l.seat l.region l.from l.to
