-- What is kept of a slot.
use Rattle.std.specs.Prelude.{◌≡◌, ℕ, List}
use Rattle.reo_net.specs.declared.circuit.RawCircuit.{RawCircuit}
use Rattle.reo_flow.specs.declared.giver.Giver.{Giver}
use Rattle.reo_flow.specs.Flow.{Sources}
use Rattle.reo_plan.specs.declared.known.Known.{Known}
use Rattle.reo_plan.specs.inside.Slots.{slot_value}

-- its value is what is in its slot
abbrev pub IsKnown : RawCircuit → List (List ℕ) → Sources → List Giver → Known → Type 0
IsKnown c texts sources slots known = known.value ≡ slot_value c texts sources slots known.slot
