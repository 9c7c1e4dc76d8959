use Rattle.std.proofs.Common.{◌≤◌, ◌-◌, length}
use Rattle.reo_growth.specs.Marks.{NoneOpenBefore}
use Rattle.reo_growth.proofs.marks.skip_closed.Given as goal

abbrev pub invariant-loop-from : goal.invariant-loop-from
invariant-loop-from l = record {
  within : l.from ≤ length l.automata;
  before : NoneOpenBefore l.from l.automata;
}

abbrev pub decreases-loop-from : goal.decreases-loop-from
decreases-loop-from l = length l.automata - l.from
