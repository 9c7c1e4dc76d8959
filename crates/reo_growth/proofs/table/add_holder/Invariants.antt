use Rattle.std.proofs.Common.{take}
use Rattle.reo_growth.specs.Search.{AddsHolder}
use Rattle.reo_growth.proofs.table.add_holder.Given as goal

abbrev pub invariant-loop-name : goal.invariant-loop-name
invariant-loop-name l = AddsHolder l.x (take l.name-index l.names) l.initial.table.items l.table.items
