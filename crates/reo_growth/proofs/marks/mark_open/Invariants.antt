use Rattle.std.proofs.Common.{take}
use Rattle.reo_growth.specs.Lists.{has}
use Rattle.reo_growth.specs.Marks.{Changes, IsBefore, opened}
use Rattle.reo_growth.specs.Trail.{Undoes}
use Rattle.reo_growth.proofs.marks.mark_open.Given as goal

abbrev pub invariant-loop-holder : goal.invariant-loop-holder
invariant-loop-holder l = record {
  changed : Changes (has (take l.holder-index l.holders)) opened l.initial.automata.marks.items l.automata.marks.items;
  undo : Undoes l.initial.automata l.automata;
  least : IsBefore (has (take l.holder-index l.holders)) l.initial.least l.least;
}
