use Rattle.std.proofs.Common.{◌≡◌, length, take}
use Rattle.reo_net.specs.Names.{name_count}
use Rattle.reo_plan.specs.inside.Rows.{HasSlots}
use Rattle.reo_plan.proofs.places.fill_slots.Given as goal

abbrev pub invariant-loop-name : goal.invariant-loop-name
invariant-loop-name l = record {
  sized : length l.table.items ≡ name_count l.net;
  slots : HasSlots l.net l.names (take l.name-index l.names) l.slots l.table.items;
}
