use Rattle.std.proofs.Common.{◌≡◌, drop}
use Rattle.reo_fabric.specs.Entry.{at_place}
use Rattle.reo_plan.proofs.view.cell_word.Given as goal

abbrev pub invariant-loop-words : goal.invariant-loop-words
invariant-loop-words l = at_place (drop l.words-index l.cells) l.cell ≡ at_place l.cells l.cell
