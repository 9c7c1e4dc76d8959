use Rattle.std.proofs.Common.{◌/◌, ◌%◌}
use Rattle.reo_plan.proofs.ColumnLemmas.{no_bits}
use Rattle.reo_plan.proofs.columns.none_out.Goals as goal

pub returns : goal.returns
returns c = λ p row passes. no_bits 64 (row / 64) (row % 64)
