use Rattle.std.proofs.Common.{take}
use Rattle.reo_growth.specs.Marks.{Changes, IsBefore, is_newly_held, opened}
use Rattle.reo_growth.specs.Trail.{Undoes}
use Rattle.reo_growth.proofs.ground.mark_all_open.Given as goal

abbrev pub invariant-loop-name : goal.invariant-loop-name
invariant-loop-name l = record {
  changed : Changes (is_newly_held l.names l.holders (take l.name-index l.link)) opened l.initial.automata.marks.items l.automata.marks.items;
  undo : Undoes l.initial.automata l.automata;
  least : IsBefore (is_newly_held l.names l.holders (take l.name-index l.link)) l.initial.least l.least;
}
