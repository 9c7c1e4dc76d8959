use Rattle.std.proofs.Common.{refl, ◌∙◌}
use Rattle.reo_grammar.specs.declared.key.Key.TheVariants as key
use Rattle.reo_grammar.specs.Machine.Guards.{AfterIs}
use Rattle.reo_sentence.specs.Reading.{left}
use Rattle.reo_sentence.proofs.ReadingLemmas.{key_taken, Goes-here}
use Rattle.reo_sentence.proofs.AtomLemmas.{completes_int, completes_text, stops_here, stuck_is}
use Rattle.reo_sentence.proofs.cursor.Cursor.after_is.Goals as goal

pub returns-in-Int-clause-reads : goal.returns-in-Int-clause-reads
returns-in-Int-clause-reads c texts = completes_int c.args.self.now c.advance.new.self texts (key_taken c.args.self.now c.advance.new.self key.Int c.in-Int.ensures c.advance.ensures)

pub returns-in-Text-clause-reads : goal.returns-in-Text-clause-reads
returns-in-Text-clause-reads c texts =
    completes_text c.args.self.now c.advance-in-Text.new.self texts (key_taken c.args.self.now c.advance-in-Text.new.self key.Text c.in-Text.ensures c.advance-in-Text.ensures)

pub returns-in_default-clause-stops : goal.returns-in_default-clause-stops
returns-in_default-clause-stops c =
    stops_here AfterIs c.args.self.now c.args.self.now _ refl (Goes-here c.args.self.now) (stuck_is (left c.args.self.now) (λ is. c.in_default.not-Int (c.key.ensures ∙ is)) (λ is. c.in_default.not-Text (c.key.ensures ∙ is)))
