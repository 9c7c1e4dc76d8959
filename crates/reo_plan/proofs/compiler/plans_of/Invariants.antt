use Rattle.std.proofs.Common.{[], map, take}
use Rattle.reo_net.specs.Names.{name_count}
use Rattle.reo_plan.specs.Plan.{firings_in}
use Rattle.reo_plan.specs.inside.Plans.{ArePlans}
use Rattle.reo_plan.specs.inside.Rows.{IsFilled}
use Rattle.reo_plan.proofs.compiler.plans_of.Given as goal

abbrev pub invariant-loop-table : goal.invariant-loop-table
invariant-loop-table l = record {
  empty : IsFilled (name_count l.net) [] l.slots.items;
  plans : ArePlans l.net (map firings_in (take l.table-index l.tables)) l.plans;
}
