use Rattle.std.proofs.Common.{◌≡◌, ◌-◌, ℕ, ◌<◌, length, false}
use Rattle.reo_plan.specs.inside.Columns.{MissesRows}
use Rattle.reo_plan.specs.inside.Marks.{AreMarks}
use Rattle.reo_plan.specs.inside.Asks.{number_so}
use Rattle.reo_plan.proofs.AskLemmas.{fits_at}
use Rattle.reo_plan.proofs.first.first_of_many.Given as goal

abbrev pub invariant-loop-row : goal.invariant-loop-row
invariant-loop-row l = record {
  marks : AreMarks (number_so l.net l.texts l.reading l.shared.slots l.shared.facts) l.marks;
  out : MissesRows (fits_at l.net l.texts l.reading l.rows) l.out.words;
  before : (k : ℕ) → k < l.row → fits_at l.net l.texts l.reading l.rows k ≡ false;
}

abbrev pub decreases-loop-row : goal.decreases-loop-row
decreases-loop-row l = length l.rows - l.row
