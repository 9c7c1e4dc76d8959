use Rattle.reo_port.specs.Party.{IsPartyOf}
use Rattle.reo_test_ports.proofs.pipe.put_all.Given as goal

abbrev pub invariant-loop-number : goal.invariant-loop-number
invariant-loop-number l = IsPartyOf l.words l.party
