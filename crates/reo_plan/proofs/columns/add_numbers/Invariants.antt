use Rattle.std.proofs.Common.{◌≡◌, ℕ, Bool, true, false, length}
use Rattle.reo_growth.specs.Lists.{has}
use Rattle.reo_plan.specs.inside.Columns.{MissesAsks}
use Rattle.reo_plan.proofs.columns.add_numbers.Given as goal

abbrev pub invariant-loop-number : goal.invariant-loop-number
invariant-loop-number l = record {
  len : length l.columns.items ≡ 4096;
  kept : (P : ℕ → ℕ → Bool) → MissesAsks P l.initial.columns.items → ((number : ℕ) → has l.numbers number ≡ true → P number l.row ≡ false) → MissesAsks P l.columns.items;
}
