use Rattle.std.proofs.Common.{take}
use Rattle.reo_growth.specs.Lists.{has}
use Rattle.reo_growth.specs.Marks.{Changes, met}
use Rattle.reo_growth.specs.Trail.{Undoes}
use Rattle.reo_growth.proofs.marks.mark_known.Given as goal

abbrev pub invariant-loop-name : goal.invariant-loop-name
invariant-loop-name l = record {
  changed : Changes (has (take l.name-index l.its)) met l.initial.names.marks.items l.names.marks.items;
  undo : Undoes l.initial.names l.names;
}
