use Rattle.std.proofs.Common.{◌+◌, ◌≤◌}
use Rattle.reo_growth.specs.Ground.{AreUnchanged}
use Rattle.reo_growth.specs.Found.{WentOver}
use Rattle.reo_growth.proofs.SearchLemmas.{vertices_before}
use Rattle.reo_growth.proofs.table.grow_all.Given as goal

abbrev pub invariant-loop-root : goal.invariant-loop-root
invariant-loop-root l = record {
  same : AreUnchanged l.initial.marking l.marking;
  bound : l.found.count + l.found.room ≤ 65536;
  went : WentOver l.ground.web (vertices_before l.ground.web l.root) l.initial.found l.found;
}
