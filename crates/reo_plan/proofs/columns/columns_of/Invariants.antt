use Rattle.std.proofs.Common.{◌≡◌, length}
use Rattle.reo_plan.specs.inside.Columns.{AreColumns}
use Rattle.reo_plan.proofs.columns.columns_of.Given as goal

abbrev pub invariant-loop-row : goal.invariant-loop-row
invariant-loop-row l = record {
  len : length l.columns.items ≡ 4096;
  are : AreColumns l.asks l.columns.items;
}
