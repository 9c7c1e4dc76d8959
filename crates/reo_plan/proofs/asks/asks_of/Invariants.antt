use Rattle.std.proofs.Common.{◌<◌, All, take}
use Rattle.reo_net.specs.declared.circuit.RawCircuit.{RawCircuit}
use Rattle.reo_plan.specs.inside.Slots.{AreMore, Extends}
use Rattle.reo_plan.specs.inside.Asks.{HasAsks}
use Rattle.reo_plan.proofs.asks.asks_of.Given as goal

abbrev pub invariant-loop-fact : goal.invariant-loop-fact
invariant-loop-fact l =
    AreMore l.initial.slots l.slots × Extends l.initial.facts l.facts
    × ((c : RawCircuit) → HasAsks c l.slots l.facts l.own (take l.fact-index l.asked) l.numbers l.rest)
    × All (λ number. number < 64) l.numbers
