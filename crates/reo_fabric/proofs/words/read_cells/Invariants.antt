use Rattle.std.proofs.Common.{◌≡◌, ℕ, ◌<◌, ◌≤◌, length, get_or, None}
use Rattle.reo_fabric.specs.Reading.{cell_word}
use Rattle.reo_fabric.proofs.words.read_cells.Given as goal

abbrev pub invariant-loop-at : goal.invariant-loop-at
invariant-loop-at l = record {
  len : length l.words ≡ length l.initial.words;
  done : (k : ℕ) → k < l.at → get_or l.words k (0, 0) ≡ ((get_or l.initial.words k (0, 0)).0, cell_word (get_or l.cells (get_or l.initial.words k (0, 0)).0 None));
  left : (k : ℕ) → l.at ≤ k → get_or l.words k (0, 0) ≡ get_or l.initial.words k (0, 0);
}
