use Rattle.std.proofs.Common.{◌≡◌}
use Rattle.reo_cut.specs.Numbers.{cells_below}
use Rattle.reo_cut.proofs.regions.cells.Given as goal

abbrev pub invariant-loop-number : goal.invariant-loop-number
invariant-loop-number l = l.cells ≡ cells_below l.net l.numbers l.number
