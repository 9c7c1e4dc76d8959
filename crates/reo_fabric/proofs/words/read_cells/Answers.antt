use Rattle.std.proofs.Common.{ℕ, get_or, None, arith}
use Rattle.reo_fabric.specs.Reading.{cell_word}
use Rattle.reo_fabric.proofs.WordLemmas.{mapped_all}
use Rattle.reo_fabric.proofs.words.read_cells.Goals as goal

pub returns : goal.returns
returns c =
    mapped_all (λ (p : ℕ × ℕ). (p.0, cell_word (get_or c.args.cells.now p.0 None))) (0, 0) c.args.words.now c.loop-at.words c.loop-at.invariant.len
    (λ k within. c.loop-at.invariant.done k (omega arith))
