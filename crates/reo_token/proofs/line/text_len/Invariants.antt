use Rattle.reo_token.proofs.CutLemmas.{Reads}
use Rattle.reo_token.proofs.line.text_len.Given as goal

abbrev pub invariant-loop-at : goal.invariant-loop-at
invariant-loop-at l = Reads l.bytes l.at l.is_escaped
