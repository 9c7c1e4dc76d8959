use Rattle.std.proofs.Common.{◌≡◌, ℕ, ◌<◌, length, take}
use Rattle.std.specs.List.{list_any}
use Rattle.reo_growth.specs.Lists.{has}
use Rattle.reo_growth.specs.Marks.{holders_at}
use Rattle.reo_growth.specs.Ground.{joins}
use Rattle.reo_growth.proofs.table.partners_of.Given as goal

abbrev pub invariant-loop-a : goal.invariant-loop-a
invariant-loop-a l = record {
  long : length l.table.items ≡ l.web.names;
  have : (one other : ℕ) → one < l.web.names → has (holders_at l.table.items one) other ≡ list_any (joins one other) (take l.a-index l.web.cells);
}
