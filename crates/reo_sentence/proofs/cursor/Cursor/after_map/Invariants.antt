use Rattle.std.proofs.Common.{length}
use Rattle.reo_sentence.proofs.FunctionLemmas.{Opened}
use Rattle.reo_sentence.proofs.cursor.Cursor.after_map.Given as goal

abbrev pub invariant-pairs : goal.invariant-pairs
invariant-pairs l = Opened l.fn.self l.self l.fn.texts l.texts l.pairs

abbrev pub decreases-pairs : goal.decreases-pairs
decreases-pairs l = length l.self.rest.now
