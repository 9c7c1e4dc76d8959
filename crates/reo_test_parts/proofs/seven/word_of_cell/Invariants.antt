use Rattle.std.proofs.Common.{◌≡◌, nat_eq, drop}
use Rattle.std.specs.Map.{lookup}
use Rattle.reo_test_parts.proofs.seven.word_of_cell.Given as goal

abbrev pub invariant-loop-word : goal.invariant-loop-word
invariant-loop-word l = lookup (nat_eq l.cell) (drop l.word-index l.words) ≡ lookup (nat_eq l.cell) l.words
