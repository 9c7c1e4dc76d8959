use Rattle.std.proofs.Common.{take}
use Rattle.reo_net.specs.declared.circuit.RawCircuit.{RawCircuit}
use Rattle.reo_plan.specs.inside.Asks.{IsNeeds}
use Rattle.reo_plan.proofs.needs.needs_of.Given as goal

abbrev pub invariant-loop-fact : goal.invariant-loop-fact
invariant-loop-fact l = (c : RawCircuit) → IsNeeds c l.slots (take l.fact-index l.facts) l.needs
