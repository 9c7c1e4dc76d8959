use Rattle.std.proofs.Common.{take}
use Rattle.reo_net.specs.declared.circuit.RawCircuit.{RawCircuit}
use Rattle.reo_plan.specs.inside.Asks.{AreShared}
use Rattle.reo_plan.proofs.asks.shared_in.Given as goal

abbrev pub invariant-loop-rows : goal.invariant-loop-rows
invariant-loop-rows l = (c : RawCircuit) → AreShared c (take l.rows-index l.plans) l.all
