use Rattle.std.proofs.Common.{◌≡◌, ℕ, ◌<◌, Bool, true}
use Rattle.reo_plan.specs.inside.Columns.{MissesRows, column_bit}
use Rattle.reo_plan.proofs.columns.rule_out.Given as goal

abbrev pub invariant-loop-word : goal.invariant-loop-word
invariant-loop-word l = (p : ℕ → Bool) → ((row : ℕ) → row < 4096 → p row ≡ true → column_bit l.columns l.number row ≡ 0) → MissesRows p l.initial.out.words → MissesRows p l.out.words
