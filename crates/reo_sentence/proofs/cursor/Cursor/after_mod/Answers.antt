use Rattle.std.proofs.Common.{refl}
use Rattle.reo_token.specs.declared.token.Symbol.TheVariants.{Equal}
use Rattle.reo_grammar.specs.Token.{Number, Sign}
use Rattle.reo_grammar.specs.Machine.Guards.{AfterMod, AfterDivisor, AfterEqual}
use Rattle.reo_sentence.specs.GuardReading.{StopsIn}
use Rattle.reo_sentence.specs.Reading.{left}
use Rattle.reo_sentence.proofs.ReadingLemmas.{passed_on}
use Rattle.reo_sentence.proofs.AtomLemmas.{completes_behind, completes_mod, stops_here, stops_behind, stuck_divisor, stuck_equal, stuck_remainder}
use Rattle.reo_sentence.proofs.cursor.Cursor.after_mod.Goals as goal

pub returns-in_err-divisor-clause-stops : goal.returns-in_err-divisor-clause-stops
returns-in_err-divisor-clause-stops c =
    passed_on c.from_residual.result c.in_err-divisor.field-0.0 (StopsIn AfterMod c.args.self.now c.number.new.self) c.from_residual.ensures.1
    (stops_here AfterMod c.args.self.now c.number.new.self _ c.in_err-divisor.ensures.refused.0 c.in_err-divisor.ensures.refused.1 (stuck_divisor (left c.args.self.now) c.in_err-divisor.ensures.refused.2))

pub returns-in_err-expect-clause-stops : goal.returns-in_err-expect-clause-stops
returns-in_err-expect-clause-stops c =
    let taken = c.in_ok-divisor.ensures.taken in
    passed_on c.from_residual-in_err-expect.result c.in_err-expect.field-0.0 (StopsIn AfterMod c.args.self.now c.expect.new.self) c.from_residual-in_err-expect.ensures.1
    (stops_behind AfterMod (AfterDivisor taken.value) c.args.self.now c.number.new.self c.expect.new.self (Number taken.value) _ taken.takes refl
    (stops_here (AfterDivisor taken.value) c.number.new.self c.expect.new.self _ c.in_err-expect.ensures.refused.0 c.in_err-expect.ensures.refused.1 (stuck_equal taken.value (left c.number.new.self) c.in_err-expect.ensures.refused.2)))

pub returns-in_err-remainder-clause-stops : goal.returns-in_err-remainder-clause-stops
returns-in_err-remainder-clause-stops c =
    let taken = c.in_ok-divisor.ensures.taken in
    passed_on c.from_residual-in_err-remainder.result c.in_err-remainder.field-0.0 (StopsIn AfterMod c.args.self.now c.number-2.new.self) c.from_residual-in_err-remainder.ensures.1
    (stops_behind AfterMod (AfterDivisor taken.value) c.args.self.now c.number.new.self c.number-2.new.self (Number taken.value) _ taken.takes refl
    (stops_behind (AfterDivisor taken.value) (AfterEqual taken.value) c.number.new.self c.expect.new.self c.number-2.new.self (Sign Equal) _ c.in_ok-expect.ensures.taken refl
    (stops_here (AfterEqual taken.value) c.expect.new.self c.number-2.new.self _ c.in_err-remainder.ensures.refused.0 c.in_err-remainder.ensures.refused.1 (stuck_remainder taken.value (left c.expect.new.self) c.in_err-remainder.ensures.refused.2))))

pub returns-clause-reads : goal.returns-clause-reads
returns-clause-reads c texts =
    let divisor = c.in_ok-divisor.ensures.taken in
    let remainder = c.in_ok-remainder.ensures.taken in
    completes_behind AfterMod (AfterDivisor divisor.value) c.args.self.now c.number.new.self c.note_remainder.new.self texts texts (Number divisor.value) c.note_remainder.result refl divisor.takes
    (completes_behind (AfterDivisor divisor.value) (AfterEqual divisor.value) c.number.new.self c.expect.new.self c.note_remainder.new.self texts texts (Sign Equal) c.note_remainder.result refl c.in_ok-expect.ensures.taken
    (completes_mod c.expect.new.self c.number-2.new.self c.note_remainder.new.self texts divisor.value remainder.value c.small_remainder.result c.note_remainder.result remainder.takes (c.small_remainder.ensures divisor.value remainder.value divisor.is remainder.is) c.note_remainder.ensures.noted c.note_remainder.ensures.value))
