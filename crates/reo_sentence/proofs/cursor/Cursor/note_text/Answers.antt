use Rattle.std.proofs.Common.{◌||◌, is_none, refl, sym, ap, ◌∙◌}
use Rattle.reo_sentence.proofs.ReadingLemmas.{notes_long, or_true, or_false}
use Rattle.reo_sentence.proofs.cursor.Cursor.note_text.Goals as goal

pub returns-in-Some-clause-noted : goal.returns-in-Some-clause-noted
returns-in-Some-clause-noted c = notes_long _ _ (ap is_none c.in-Some.is)

pub returns-in-None-clause-noted : goal.returns-in-None-clause-noted
returns-in-None-clause-noted c = record {
  rest = refl;
  line = refl;
  wide_noted = sym (or_false c.args.self.now.is_wide);
  long_noted = sym (ap (λ n. c.args.self.now.is_long || is_none n) c.in-None.is ∙ or_true c.args.self.now.is_long);
}
