use Rattle.std.proofs.Common.{◌≡◌, ℕ, ◌-◌, ◌<◌, ◌≤◌, Bool, false}
use Rattle.reo_plan.specs.inside.Columns.{MissesRows}
use Rattle.reo_plan.proofs.columns.next_row.Given as goal

abbrev pub invariant-loop-row : goal.invariant-loop-row
invariant-loop-row l = record {
  after : l.from ≤ l.row;
  passed : (p : ℕ → Bool) → MissesRows p l.out.words → (row : ℕ) → l.from ≤ row → row < l.row → p row ≡ false;
}

abbrev pub decreases-loop-row : goal.decreases-loop-row
decreases-loop-row l = 4096 - l.row
