use Rattle.reo_sentence.proofs.SeenLemmas.{ReadDigits}
use Rattle.reo_sentence.proofs.number.magnitude.Given as goal

abbrev pub invariant-loop-digit : goal.invariant-loop-digit
invariant-loop-digit l = ReadDigits l.digits l.digit-index l.value
