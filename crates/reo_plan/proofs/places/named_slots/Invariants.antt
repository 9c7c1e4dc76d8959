use Rattle.std.proofs.Common.{◌≡◌, take}
use Rattle.reo_plan.specs.inside.Rows.{named_slots}
use Rattle.reo_plan.proofs.places.named_slots.Given as goal

abbrev pub invariant-loop-name : goal.invariant-loop-name
invariant-loop-name l = l.named ≡ named_slots l.table (take l.name-index l.names)
