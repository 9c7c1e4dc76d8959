use Rattle.std.proofs.Common.{◌≡◌, take}
use Rattle.reo_flow.specs.Flow.{sources_of}
use Rattle.reo_plan.specs.inside.Slots.{slot_value}
use Rattle.reo_plan.specs.inside.Known.{IsKnown}
use Rattle.reo_plan.specs.inside.Rows.{values_at}
use Rattle.reo_plan.specs.inside.Back.{reading_back}
use Rattle.reo_plan.proofs.back.pairs_into.Given as goal

abbrev pub invariant-loop-place : goal.invariant-loop-place
invariant-loop-place l =
    IsKnown l.net l.texts (sources_of (reading_back l.entry)) l.slots l.known
    × (l.pairs.items ≡ values_at (slot_value l.net l.texts (sources_of (reading_back l.entry)) l.slots) (take l.place-index l.named))
