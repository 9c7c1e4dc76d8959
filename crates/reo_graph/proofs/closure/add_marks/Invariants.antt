use Rattle.std.proofs.Common.{◌≡◌, ℕ, ◌||◌, ◌≤◌, ◌<◌, vec_len, length}
use Rattle.reo_graph.specs.Closure.{mark}
use Rattle.reo_graph.proofs.closure.add_marks.Given as goal

abbrev pub invariant-loop-place : goal.invariant-loop-place
invariant-loop-place l = record {
  len : length l.more ≤ vec_len l.row;
  done : (j : ℕ) → j < l.place → mark l.row.items j ≡ (mark l.fn.row.items j || mark l.more j);
  left : (j : ℕ) → l.place ≤ j → mark l.row.items j ≡ mark l.fn.row.items j;
}
