use Rattle.std.proofs.Common.{take}
use Rattle.reo_net.specs.declared.circuit.RawCircuit.{RawCircuit}
use Rattle.reo_plan.specs.inside.Slots.{AreOrdered}
use Rattle.reo_plan.specs.inside.Asks.{AreAsks}
use Rattle.reo_plan.proofs.asks.shared_by.Given as goal

abbrev pub invariant-loop-row : goal.invariant-loop-row
invariant-loop-row l = AreOrdered l.slots × ((c : RawCircuit) → AreAsks c l.slots l.facts (take l.row-index l.rows) l.asks)
