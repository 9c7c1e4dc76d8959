use Rattle.std.proofs.Common.{take}
use Rattle.reo_plan.specs.inside.Marks.{Misses}
use Rattle.reo_plan.specs.inside.Needs.{some_offer}
use Rattle.reo_plan.proofs.needs.unoffered.Given as goal

abbrev pub invariant-loop-words : goal.invariant-loop-words
invariant-loop-words l = Misses (some_offer (take l.words-index l.ports)) l.missing
