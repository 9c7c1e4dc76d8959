use Rattle.std.proofs.Common.{take}
use Rattle.std.specs.List.{flat_map}
use Rattle.reo_trace.specs.Buffer.{HasTaken}
use Rattle.reo_outline.specs.Outline.{cell_line}
use Rattle.reo_outline.proofs.outline.push_cells.Given as goal

abbrev pub invariant-loop-cell : goal.invariant-loop-cell
invariant-loop-cell l = HasTaken l.initial.buffer l.buffer (flat_map cell_line (take l.cell-index l.cells))
