use Rattle.reo_sentence.proofs.ReadingLemmas.{reads_number}
use Rattle.reo_sentence.proofs.cursor.Cursor.operand.Goals as goal

pub returns-clause-reads : goal.returns-clause-reads
returns-clause-reads c texts =
    reads_number c.args.self.now c.number.new.self c.note_number.new.self texts c.in_ok-number.number c.note_number.result c.in_ok-number.ensures.taken c.note_number.ensures.noted c.note_number.ensures.value
