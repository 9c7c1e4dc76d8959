use Rattle.std.proofs.Common.{◌≡◌, ◌++◌, ◌+◌, map, replicate, take}
use Rattle.reo_fabric.specs.Laws.{AreValues}
use Rattle.reo_fabric.specs.Reading.{cell_word}
use Rattle.reo_table.proofs.words.words_of.Given as goal

abbrev pub invariant-loop-cell : goal.invariant-loop-cell
invariant-loop-cell l = record {
  words : l.words.items ≡ replicate (1 + l.fn.fabric.regions) 0 ++ map (λ cell. cell_word cell.first) (take l.cell-index l.cell-items);
  values : AreValues (map (λ cell. cell.first) (take l.cell-index l.cell-items));
}
