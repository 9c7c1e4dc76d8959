use Rattle.std.proofs.Common.{◌≡◌, ℕ, ◌<◌, get_or, false}
use Rattle.reo_plan.specs.declared.row.Row.{Row}
use Rattle.reo_plan.specs.inside.Marks.{AreMarks}
use Rattle.reo_plan.specs.inside.Asks.{number_so}
use Rattle.reo_plan.specs.inside.Plans.{fits}
use Rattle.reo_plan.proofs.first.first_of_few.Given as goal

abbrev pub invariant-loop-row : goal.invariant-loop-row
invariant-loop-row l = record {
  marks : AreMarks (number_so l.net l.texts l.reading l.shared.slots l.shared.facts) l.marks;
  before : (k : ℕ) (d : Row) → k < l.row → fits l.net l.texts l.reading (get_or l.rows k d) ≡ false;
}
