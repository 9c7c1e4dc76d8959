use Rattle.reo_product.proofs.CellLemmas.{AreFirstCells}
use Rattle.reo_product.proofs.web.cells_of.Given as goal

abbrev pub invariant-loop-name : goal.invariant-loop-name
invariant-loop-name l = AreFirstCells l.net l.names l.name-index l.cells
