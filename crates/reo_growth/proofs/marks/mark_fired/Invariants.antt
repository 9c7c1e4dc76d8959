use Rattle.std.proofs.Common.{take}
use Rattle.reo_growth.specs.Lists.{has}
use Rattle.reo_growth.specs.declared.marks.Mark.TheVariants.{Fires}
use Rattle.reo_growth.specs.Marks.{Changes}
use Rattle.reo_growth.specs.Trail.{Undoes}
use Rattle.reo_growth.proofs.marks.mark_fired.Given as goal

abbrev pub invariant-loop-name : goal.invariant-loop-name
invariant-loop-name l = record {
  changed : Changes (has (take l.name-index l.link)) (λ _. Fires) l.initial.names.marks.items l.names.marks.items;
  undo : Undoes l.initial.names l.names;
}
