use Rattle.std.proofs.Common.{◌≡◌, take}
use Rattle.reo_flow.specs.Flow.{sources_of}
use Rattle.reo_plan.specs.inside.Slots.{slot_value}
use Rattle.reo_plan.specs.inside.Known.{IsKnown}
use Rattle.reo_plan.specs.inside.Rows.{values_at}
use Rattle.reo_plan.specs.inside.Sides.{added}
use Rattle.reo_plan.proofs.write.write.Given as goal

abbrev pub invariant-loop-place : goal.invariant-loop-place
invariant-loop-place l =
    IsKnown l.net l.texts (sources_of l.reading) l.slots l.known
    × (l.room ≡ added l.initial.room l.side (values_at (slot_value l.net l.texts (sources_of l.reading) l.slots) (take l.place-index l.places)))
