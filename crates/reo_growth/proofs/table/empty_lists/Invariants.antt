use Rattle.std.proofs.Common.{◌≡◌, ℕ, ◌<◌, [], length, get_or}
use Rattle.std.specs.Prelude.{List}
use Rattle.reo_growth.proofs.table.empty_lists.Given as goal

abbrev pub invariant-loop : goal.invariant-loop
invariant-loop l = record {
  long : length l.table.items ≡ l.counter;
  empty : (k : ℕ) (d : List ℕ) → k < length l.table.items → get_or l.table.items k d ≡ [];
}
