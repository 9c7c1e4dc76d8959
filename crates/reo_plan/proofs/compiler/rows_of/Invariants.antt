use Rattle.std.proofs.Common.{[], map, take}
use Rattle.reo_net.specs.Names.{name_count}
use Rattle.reo_product.specs.Table.{names_in}
use Rattle.reo_plan.specs.inside.Plans.{AreRows}
use Rattle.reo_plan.specs.inside.Rows.{IsFilled}
use Rattle.reo_plan.proofs.compiler.rows_of.Given as goal

abbrev pub invariant-loop-firing : goal.invariant-loop-firing
invariant-loop-firing l = record {
  empty : IsFilled (name_count l.net) [] l.table.items;
  rows : AreRows l.net (map names_in (take l.firing-index l.firings)) l.rows;
}
