use Rattle.std.proofs.Common.{◌≡◌, ◌≤◌, length, slice_index_or}
use Rattle.std.specs.Prelude.{filter}
use Rattle.std.specs.List.{range_with_len}
use Rattle.reo_growth.specs.declared.marks.Mark.TheVariants.{Unknown}
use Rattle.reo_growth.specs.Marks.{is_fires}
use Rattle.reo_growth.proofs.found.row_of.Given as goal

abbrev pub invariant-loop-name : goal.invariant-loop-name
invariant-loop-name l = record {
  names : l.names.items ≡ filter (λ name. is_fires (slice_index_or l.marks name Unknown)) (range_with_len 0 l.name);
  few : length l.names.items ≤ l.name;
}
