use Rattle.reo_sentence.proofs.ReadingLemmas.{reads_text}
use Rattle.reo_sentence.proofs.cursor.Cursor.text.Goals as goal

pub returns-clause-taken : goal.returns-clause-taken
returns-clause-taken c =
    reads_text c.args.self.now c.advance.new.self c.note_text.new.self c.args.texts.now c.add_value.new.texts _ c.in_ok-number.number c.note_text.result c.in-Some.ensures.text c.advance.ensures c.in_ok-number.ensures c.note_text.ensures.noted c.note_text.ensures.value
