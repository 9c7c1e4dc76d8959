use Rattle.std.proofs.Common.{◌≡◌, take}
use Rattle.reo_plan.specs.inside.Placed.{cell_at, placed_slots}
use Rattle.reo_plan.proofs.places.cell_slots.Given as goal

abbrev pub invariant-loop-name : goal.invariant-loop-name
invariant-loop-name l = l.places ≡ placed_slots (cell_at l.net l.at_b) l.table (take l.name-index l.names)
