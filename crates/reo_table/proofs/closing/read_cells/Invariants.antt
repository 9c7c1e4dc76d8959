use Rattle.std.proofs.Common.{◌≡◌, ◌<◌, ◌+◌, ℕ, length, take, slice_index_or, None}
use mathlib.Core.Option.{some}
use lib.ListN.{get_elem?}
use Rattle.std.specs.Mem.Slots.{slots_items}
use Rattle.reo_table.specs.Closing.{AreRead, SaysHeld}
use Rattle.reo_table.proofs.closing.read_cells.Given as goal

abbrev pub invariant-loop-cell : goal.invariant-loop-cell
invariant-loop-cell l = record {
  place : l.place ≡ l.fn.first + l.cell-index;
  all : length l.cell-items ≡ length l.fn.room.items;
  each : (cell word : ℕ) → cell < l.cell-index → get_elem? (slots_items l.fn.closed.words) (l.fn.first + cell) ≡ some word → SaysHeld word (slice_index_or l.cell-items cell None);
}
