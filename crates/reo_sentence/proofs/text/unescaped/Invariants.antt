use Rattle.reo_sentence.proofs.SeenLemmas.{ReadBytes}
use Rattle.reo_sentence.proofs.text.unescaped.Given as goal

abbrev pub invariant-loop-byte : goal.invariant-loop-byte
invariant-loop-byte l = ReadBytes l.text l.byte-index l.is_escaped l.value.items
