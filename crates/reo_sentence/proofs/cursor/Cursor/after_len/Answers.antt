use Rattle.std.proofs.Common.{refl}
use Rattle.reo_token.specs.declared.token.Symbol.TheVariants.{LessOrEqual}
use Rattle.reo_grammar.specs.Token.{Sign}
use Rattle.reo_grammar.specs.Machine.Guards.{AfterLen, AfterAtMost}
use Rattle.reo_sentence.specs.GuardReading.{StopsIn}
use Rattle.reo_sentence.specs.Reading.{left}
use Rattle.reo_sentence.proofs.ReadingLemmas.{passed_on}
use Rattle.reo_sentence.proofs.AtomLemmas.{completes_behind, completes_length, stops_here, stops_behind, stuck_at_most, stuck_length}
use Rattle.reo_sentence.proofs.cursor.Cursor.after_len.Goals as goal

pub returns-in_err-expect-clause-stops : goal.returns-in_err-expect-clause-stops
returns-in_err-expect-clause-stops c =
    passed_on c.from_residual.result c.in_err-expect.field-0.0 (StopsIn AfterLen c.args.self.now c.expect.new.self) c.from_residual.ensures.1
    (stops_here AfterLen c.args.self.now c.expect.new.self _ c.in_err-expect.ensures.refused.0 c.in_err-expect.ensures.refused.1 (stuck_at_most (left c.args.self.now) c.in_err-expect.ensures.refused.2))

pub returns-in_err-most-clause-stops : goal.returns-in_err-most-clause-stops
returns-in_err-most-clause-stops c =
    passed_on c.from_residual-in_err-most.result c.in_err-most.field-0.0 (StopsIn AfterLen c.args.self.now c.number.new.self) c.from_residual-in_err-most.ensures.1
    (stops_behind AfterLen AfterAtMost c.args.self.now c.expect.new.self c.number.new.self (Sign LessOrEqual) _ c.in_ok-expect.ensures.taken refl
    (stops_here AfterAtMost c.expect.new.self c.number.new.self _ c.in_err-most.ensures.refused.0 c.in_err-most.ensures.refused.1 (stuck_length (left c.expect.new.self) c.in_err-most.ensures.refused.2)))

pub returns-clause-reads : goal.returns-clause-reads
returns-clause-reads c texts =
    let taken = c.in_ok-most.ensures.taken in
    completes_behind AfterLen AfterAtMost c.args.self.now c.expect.new.self c.note_most.new.self texts texts (Sign LessOrEqual) c.note_most.result refl c.in_ok-expect.ensures.taken
    (completes_length c.expect.new.self c.number.new.self c.note_most.new.self texts taken.value c.natural.result c.note_most.result taken.takes (c.natural.ensures.exact taken.value taken.is) c.note_most.ensures.noted c.note_most.ensures.value)
