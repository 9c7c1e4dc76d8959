use Rattle.std.proofs.Common.{◌≡◌, nat_eq, drop}
use Rattle.std.specs.Map.{lookup}
use Rattle.reo_test_parts.specs.Seven.{word_pairs}
use Rattle.reo_test_parts.proofs.seven.words_of_port.Given as goal

abbrev pub invariant-loop-word : goal.invariant-loop-word
invariant-loop-word l = lookup (nat_eq l.port) (word_pairs (drop l.word-index l.words)) ≡ lookup (nat_eq l.port) (word_pairs l.words)
