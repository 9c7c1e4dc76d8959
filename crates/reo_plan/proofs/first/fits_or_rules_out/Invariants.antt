use Rattle.std.proofs.Common.{◌≡◌, ℕ, ◌⊎◌, true}
use Rattle.std.specs.Int.{bit_at}
use Rattle.reo_growth.specs.Lists.{has}
use Rattle.reo_plan.specs.inside.Marks.{AreMarks}
use Rattle.reo_plan.specs.inside.Asks.{number_so}
use Rattle.reo_plan.proofs.first.fits_or_rules_out.Given as goal

abbrev pub invariant-loop-left : goal.invariant-loop-left
invariant-loop-left l = record {
  marks : AreMarks (number_so l.net l.texts l.reading l.shared.slots l.shared.facts) l.marks;
  left : (n : ℕ) → has l.asks.numbers n ≡ true → (number_so l.net l.texts l.reading l.shared.slots l.shared.facts n ≡ true) ⊎ (bit_at l.left n ≡ 1);
  within : (n : ℕ) → bit_at l.left n ≡ 1 → bit_at l.asks.mask n ≡ 1;
  out : l.out.words ≡ l.initial.out.words;
}

abbrev pub decreases-loop-left : goal.decreases-loop-left
decreases-loop-left l = l.left
