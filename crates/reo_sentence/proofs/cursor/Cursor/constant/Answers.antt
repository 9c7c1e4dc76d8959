use Rattle.reo_sentence.proofs.ReadingLemmas.{reads_number, const_of_number, const_of_text}
use Rattle.reo_sentence.proofs.cursor.Cursor.constant.Goals as goal

pub returns-then-is_some-clause-taken : goal.returns-then-is_some-clause-taken
returns-then-is_some-clause-taken c = const_of_text c.args.self.now c.text.new.self c.args.texts.now c.text.new.texts c.in_ok-text.field-0 c.in_ok-text.ensures.taken

pub returns-clause-taken : goal.returns-clause-taken
returns-clause-taken c =
    const_of_number c.args.self.now c.note_number.new.self c.args.texts.now c.note_number.result
    (reads_number c.args.self.now c.number.new.self c.note_number.new.self c.args.texts.now c.in_ok-number.number c.note_number.result c.in_ok-number.ensures.taken c.note_number.ensures.noted c.note_number.ensures.value)
