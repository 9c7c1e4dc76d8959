use Rattle.std.proofs.Common.{◌≡◌, take}
use Rattle.reo_plan.specs.inside.Placed.{port_at, placed_slots}
use Rattle.reo_plan.proofs.places.port_slots.Given as goal

abbrev pub invariant-loop-name : goal.invariant-loop-name
invariant-loop-name l = l.places ≡ placed_slots (port_at l.net l.puts) l.table (take l.name-index l.names)
