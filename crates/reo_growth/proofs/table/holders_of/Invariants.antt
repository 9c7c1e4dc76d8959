use Rattle.std.proofs.Common.{◌≡◌, ℕ, ◌<◌, length, ◌&&◌}
use Rattle.std.specs.Prelude.{nat_lt}
use Rattle.reo_growth.specs.Lists.{has}
use Rattle.reo_growth.specs.Web.{names_of}
use Rattle.reo_growth.specs.Marks.{holders_at}
use Rattle.reo_growth.proofs.table.holders_of.Given as goal

abbrev pub invariant-loop-x : goal.invariant-loop-x
invariant-loop-x l = record {
  long : length l.table.items ≡ l.web.names;
  have : (y name : ℕ) → name < l.web.names → has (holders_at l.table.items name) y ≡ (nat_lt y l.x && has (names_of l.web y) name);
}
