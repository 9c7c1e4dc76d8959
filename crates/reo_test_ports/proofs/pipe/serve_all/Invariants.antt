use Rattle.reo_test_ports.specs.Pipe.{CanServe}
use Rattle.reo_test_ports.proofs.pipe.serve_all.Given as goal

abbrev pub invariant-loop : goal.invariant-loop
invariant-loop l = CanServe l.words l.seat
