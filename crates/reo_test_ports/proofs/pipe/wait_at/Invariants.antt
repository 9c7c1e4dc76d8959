use Rattle.reo_port.specs.Party.{IsPartyOf}
use Rattle.reo_test_ports.proofs.pipe.wait_at.Given as goal

abbrev pub invariant-loop : goal.invariant-loop
invariant-loop l = IsPartyOf l.words l.party
