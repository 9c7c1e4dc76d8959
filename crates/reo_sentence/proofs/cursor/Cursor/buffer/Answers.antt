use Rattle.std.proofs.Common.{sym, ◌∙◌}
use Rattle.std.proofs.lemmas.Bool.{false≢true}
use Rattle.reo_grammar.specs.declared.key.Key.TheVariants as key
use Rattle.reo_grammar.specs.Machine.Lines.{FifoWord}
use Rattle.reo_sentence.specs.LineReading.{StopsKind}
use Rattle.reo_sentence.proofs.ReadingLemmas.{passed_on, key_taken}
use Rattle.reo_sentence.proofs.KindLemmas.{reads_fifo, reads_full, stops_full}
use Rattle.reo_sentence.proofs.cursor.Cursor.buffer.Goals as goal

pub returns-then-not-sees-clause-reads : goal.returns-then-not-sees-clause-reads
returns-then-not-sees-clause-reads c =
    reads_fifo c.args.self.now c.args.texts.now (λ is. false≢true (sym c.if-not-sees.true ∙ c.sees.ensures.1 is))

pub returns-in_err-first-clause-stops : goal.returns-in_err-first-clause-stops
returns-in_err-first-clause-stops c =
    passed_on c.from_residual.result c.in_err-first.field-0.0 (StopsKind FifoWord c.args.self.now c.constant.new.self) c.from_residual.ensures.1
    (stops_full c.args.self.now c.advance.new.self c.constant.new.self c.in_err-first.field-0.0 (key_taken c.args.self.now c.advance.new.self key.Full (sym (c.sees.ensures.0 c.if-not-sees.false)) c.advance.ensures) c.in_err-first.ensures.refused)

pub returns-clause-reads : goal.returns-clause-reads
returns-clause-reads c =
    reads_full c.args.self.now c.advance.new.self c.constant.new.self c.args.texts.now c.constant.new.texts c.in_ok-first.first (key_taken c.args.self.now c.advance.new.self key.Full (sym (c.sees.ensures.0 c.if-not-sees.false)) c.advance.ensures) c.in_ok-first.ensures.taken
