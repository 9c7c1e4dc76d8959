use Rattle.reo_grammar.specs.Machine.Guards.{AfterStarts}
use Rattle.reo_sentence.specs.GuardReading.{StopsIn}
use Rattle.reo_sentence.specs.Reading.{left}
use Rattle.reo_sentence.proofs.ReadingLemmas.{passed_on}
use Rattle.reo_sentence.proofs.AtomLemmas.{completes_starts, stops_refused, stuck_text}
use Rattle.reo_sentence.proofs.cursor.Cursor.after_starts.Goals as goal

pub returns-in_err-front-clause-stops : goal.returns-in_err-front-clause-stops
returns-in_err-front-clause-stops c =
    passed_on c.from_residual.result c.in_err-front.field-0.0 (StopsIn AfterStarts c.args.self.now c.text.new.self) c.from_residual.ensures.1
    (stops_refused AfterStarts c.args.self.now c.text.new.self _ c.in_err-front.field-0.0 c.in_err-front.ensures.refused (stuck_text (left c.args.self.now)))

pub returns-clause-reads : goal.returns-clause-reads
returns-clause-reads c = completes_starts c.args.self.now c.text.new.self c.args.texts.now c.text.new.texts c.in_ok-front.front c.in_ok-front.ensures.taken
