use Rattle.std.proofs.Common.{◌≡◌, drop}
use Rattle.std.specs.List.{list_all}
use Rattle.reo_plan.specs.inside.Marks.{AreMarks}
use Rattle.reo_plan.specs.inside.Asks.{number_so}
use Rattle.reo_plan.proofs.first.all_found_so.Given as goal

abbrev pub invariant-loop-number : goal.invariant-loop-number
invariant-loop-number l =
    AreMarks (number_so l.net l.texts l.reading l.slots l.facts) l.marks
    × (list_all (number_so l.net l.texts l.reading l.slots l.facts) (drop l.number-index l.numbers) ≡ list_all (number_so l.net l.texts l.reading l.slots l.facts) l.numbers)
