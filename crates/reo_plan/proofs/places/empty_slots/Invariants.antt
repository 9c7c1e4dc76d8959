use Rattle.std.proofs.Common.{◌≡◌, ℕ, ◌⊎◌, length, take, None, true, false}
use Rattle.reo_net.specs.Names.{name_count}
use Rattle.reo_growth.specs.Lists.{has}
use Rattle.reo_plan.specs.inside.Rows.{slot_in}
use Rattle.reo_plan.proofs.places.empty_slots.Given as goal

abbrev pub invariant-loop-name : goal.invariant-loop-name
invariant-loop-name l = record {
  sized : length l.table.items ≡ name_count l.net;
  none : (name : ℕ) → (has l.names name ≡ false) ⊎ (has (take l.name-index l.names) name ≡ true) → slot_in l.table.items name ≡ None;
}
