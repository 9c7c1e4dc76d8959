use Rattle.std.proofs.Common.{refl, sym, subst}
use Rattle.reo_guard.specs.declared.guard.Guard.TheVariants as guard
use Rattle.reo_grammar.specs.declared.key.Key.TheVariants as key
use Rattle.reo_grammar.specs.Token.{word}
use Rattle.reo_grammar.specs.Machine.Guards.{AfterX, AfterIs, AfterLen, AfterStarts}
use Rattle.reo_sentence.specs.GuardReading.{ReadsGuard, ReadsTerm, ReadsFactor, StopsFactor, StopsTerm, StopsGuard}
use Rattle.reo_sentence.proofs.ReadingLemmas.{passed_on, key_taken}
use Rattle.reo_sentence.proofs.AtomLemmas.{IfOk-with, IfErr-with}
use Rattle.reo_sentence.proofs.GuardLemmas.{reads_Term, reads_Or, reads_Factor, reads_And, reads_Not, reads_Brackets, reads_Only, stops_Factor, stops_Term, stops_And, stops_Or, stops_Not, stops_Open, begins_x, begins_is, begins_len, begins_starts, stops_Only, stops_no_factor, stops_Close}
use Rattle.reo_sentence.proofs.cursor.Cursor.+guard.Goals as goal

pub bracketed-returns-in_err-expect-clause-stops : goal.bracketed-returns-in_err-expect-clause-stops
bracketed-returns-in_err-expect-clause-stops t c =
    passed_on c.from_residual.result c.in_err-expect.field-0.0 (StopsFactor c.args.self.now c.expect.new.self) c.from_residual.ensures.1
    (stops_no_factor c.args.self.now c.expect.new.self _ c.in_err-expect.ensures.refused.0 c.in_err-expect.ensures.refused.1 c.requires.begins c.in_err-expect.ensures.refused.2)

pub bracketed-returns-in_err-guard-clause-stops : goal.bracketed-returns-in_err-guard-clause-stops
bracketed-returns-in_err-guard-clause-stops t c =
    passed_on c.from_residual-in_err-guard.result c.in_err-guard.field-0.0 (StopsFactor c.args.self.now c.guard.new.self) c.from_residual-in_err-guard.ensures.1
    (stops_Open c.args.self.now c.expect.new.self c.guard.new.self c.in_err-guard.field-0.0 c.in_ok-expect.ensures.taken c.in_err-guard.ensures.stops)

pub bracketed-returns-in_err-expect-2-clause-stops : goal.bracketed-returns-in_err-expect-2-clause-stops
bracketed-returns-in_err-expect-2-clause-stops t c =
    passed_on c.from_residual-in_err-expect-2.result c.in_err-expect-2.field-0.0 (StopsFactor c.args.self.now c.expect-2.new.self) c.from_residual-in_err-expect-2.ensures.1
    (stops_Close c.args.self.now c.expect.new.self c.guard.new.self c.expect-2.new.self c.args.texts.now c.guard.new.texts c.in_ok-guard.guard _ c.in_err-expect-2.ensures.refused.0 c.in_ok-expect.ensures.taken c.in_ok-guard.ensures.reads c.in_ok-guard.ensures.whole c.in_err-expect-2.ensures.refused.1 c.in_err-expect-2.ensures.refused.2)

pub bracketed-returns-clause-reads : goal.bracketed-returns-clause-reads
bracketed-returns-clause-reads t c =
    reads_Brackets c.args.self.now c.expect.new.self c.guard.new.self c.expect-2.new.self c.args.texts.now c.guard.new.texts c.in_ok-guard.guard c.in_ok-expect.ensures.taken c.in_ok-guard.ensures.reads c.in_ok-expect-2.ensures.taken

pub factor-returns-in_err-inner-in-Not-clause-stops : goal.factor-returns-in_err-inner-in-Not-clause-stops
factor-returns-in_err-inner-in-Not-clause-stops t c =
    passed_on c.from_residual.result c.in_err-inner-in-Not.field-0.0 (StopsFactor c.args.self.now c.factor.new.self) c.from_residual.ensures.1
    (stops_Not c.args.self.now c.advance.new.self c.factor.new.self c.in_err-inner-in-Not.field-0.0 (key_taken c.args.self.now c.advance.new.self key.Not c.in-Not.ensures c.advance.ensures) c.in_err-inner-in-Not.ensures.stops)

pub factor-returns-in_ok-new-in-Not-clause-reads : goal.factor-returns-in_ok-new-in-Not-clause-reads
factor-returns-in_ok-new-in-Not-clause-reads t c =
    subst (λ inner. ReadsFactor c.args.self.now c.factor.new.self c.args.texts.now c.factor.new.texts (guard.Not inner)) (sym c.in_ok-new-in-Not.ensures)
    (reads_Not c.args.self.now c.advance.new.self c.factor.new.self c.args.texts.now c.factor.new.texts c.in_ok-inner-in-Not.inner (key_taken c.args.self.now c.advance.new.self key.Not c.in-Not.ensures c.advance.ensures) c.in_ok-inner-in-Not.ensures.reads)

pub factor-returns-in-X-clause-reads : goal.factor-returns-in-X-clause-reads
factor-returns-in-X-clause-reads t c =
    IfOk-with c.after_x.result _ _ (λ made. reads_Only AfterX c.args.self.now c.advance-in-X.new.self c.after_x.new.self c.args.texts.now c.after_x.new.texts (word key.X) made refl
    (key_taken c.args.self.now c.advance-in-X.new.self key.X c.in-X.ensures c.advance-in-X.ensures)) c.after_x.ensures.reads

pub factor-returns-in-X-clause-stops : goal.factor-returns-in-X-clause-stops
factor-returns-in-X-clause-stops t c =
    IfErr-with c.after_x.result _ (StopsFactor c.args.self.now c.after_x.new.self) (λ e. stops_Only AfterX key.X c.args.self.now c.advance-in-X.new.self c.after_x.new.self e begins_x
    (key_taken c.args.self.now c.advance-in-X.new.self key.X c.in-X.ensures c.advance-in-X.ensures)) c.after_x.ensures.stops

pub factor-returns-in-Is-clause-reads : goal.factor-returns-in-Is-clause-reads
factor-returns-in-Is-clause-reads t c =
    IfOk-with c.after_is.result _ _ (λ made. reads_Only AfterIs c.args.self.now c.advance-in-Is.new.self c.after_is.new.self c.args.texts.now c.args.texts.now (word key.Is) made refl
    (key_taken c.args.self.now c.advance-in-Is.new.self key.Is c.in-Is.ensures c.advance-in-Is.ensures)) (c.after_is.ensures.reads c.args.texts.now)

pub factor-returns-in-Is-clause-stops : goal.factor-returns-in-Is-clause-stops
factor-returns-in-Is-clause-stops t c =
    IfErr-with c.after_is.result _ (StopsFactor c.args.self.now c.after_is.new.self) (λ e. stops_Only AfterIs key.Is c.args.self.now c.advance-in-Is.new.self c.after_is.new.self e begins_is
    (key_taken c.args.self.now c.advance-in-Is.new.self key.Is c.in-Is.ensures c.advance-in-Is.ensures)) c.after_is.ensures.stops

pub factor-returns-in-Len-clause-reads : goal.factor-returns-in-Len-clause-reads
factor-returns-in-Len-clause-reads t c =
    IfOk-with c.after_len.result _ _ (λ made. reads_Only AfterLen c.args.self.now c.advance-in-Len.new.self c.after_len.new.self c.args.texts.now c.args.texts.now (word key.Len) made refl
    (key_taken c.args.self.now c.advance-in-Len.new.self key.Len c.in-Len.ensures c.advance-in-Len.ensures)) (c.after_len.ensures.reads c.args.texts.now)

pub factor-returns-in-Len-clause-stops : goal.factor-returns-in-Len-clause-stops
factor-returns-in-Len-clause-stops t c =
    IfErr-with c.after_len.result _ (StopsFactor c.args.self.now c.after_len.new.self) (λ e. stops_Only AfterLen key.Len c.args.self.now c.advance-in-Len.new.self c.after_len.new.self e begins_len
    (key_taken c.args.self.now c.advance-in-Len.new.self key.Len c.in-Len.ensures c.advance-in-Len.ensures)) c.after_len.ensures.stops

pub factor-returns-in-Starts-clause-reads : goal.factor-returns-in-Starts-clause-reads
factor-returns-in-Starts-clause-reads t c =
    IfOk-with c.after_starts.result _ _ (λ made. reads_Only AfterStarts c.args.self.now c.advance-in-Starts.new.self c.after_starts.new.self c.args.texts.now c.after_starts.new.texts (word key.Starts) made refl
    (key_taken c.args.self.now c.advance-in-Starts.new.self key.Starts c.in-Starts.ensures c.advance-in-Starts.ensures)) c.after_starts.ensures.reads

pub factor-returns-in-Starts-clause-stops : goal.factor-returns-in-Starts-clause-stops
factor-returns-in-Starts-clause-stops t c =
    IfErr-with c.after_starts.result _ (StopsFactor c.args.self.now c.after_starts.new.self) (λ e. stops_Only AfterStarts key.Starts c.args.self.now c.advance-in-Starts.new.self c.after_starts.new.self e begins_starts
    (key_taken c.args.self.now c.advance-in-Starts.new.self key.Starts c.in-Starts.ensures c.advance-in-Starts.ensures)) c.after_starts.ensures.stops

pub guard-returns-in_err-left-clause-stops : goal.guard-returns-in_err-left-clause-stops
guard-returns-in_err-left-clause-stops t c =
    passed_on c.from_residual.result c.in_err-left.field-0.0 (StopsGuard c.args.self.now c.term.new.self) c.from_residual.ensures.1
    (stops_Term c.args.self.now c.term.new.self c.in_err-left.field-0.0 c.in_err-left.ensures.stops)

pub guard-terms-init : goal.guard-terms-init
guard-terms-init t c =
    (reads_Term c.args.self.now c.term.new.self c.args.texts.now c.term.new.texts c.in_ok-left.left c.in_ok-left.ensures.reads, c.in_ok-left.ensures.whole)

pub guard-returns-in_err-right-clause-stops : goal.guard-returns-in_err-right-clause-stops
guard-returns-in_err-right-clause-stops t c =
    passed_on c.from_residual-in_err-right.result c.in_err-right.field-0.0 (StopsGuard c.args.self.now c.term-in-terms.new.self) c.from_residual-in_err-right.ensures.1
    (stops_Or c.args.self.now c.terms.self c.advance.new.self c.term-in-terms.new.self c.args.texts.now c.terms.texts c.terms.left c.in_err-right.field-0.0 c.terms.invariant.0 (key_taken c.terms.self c.advance.new.self key.Or (sym (c.sees.ensures.0 c.terms-test.true)) c.advance.ensures) c.in_err-right.ensures.stops)

pub guard-terms-preserved : goal.guard-terms-preserved
guard-terms-preserved t c = (
  subst (λ l. ReadsGuard c.args.self.now c.term-in-terms.new.self c.args.texts.now c.term-in-terms.new.texts (guard.Or l c.in_ok-new-2.field-0)) (sym c.in_ok-new.ensures)
      (subst (λ r. ReadsGuard c.args.self.now c.term-in-terms.new.self c.args.texts.now c.term-in-terms.new.texts (guard.Or c.terms.left r)) (sym c.in_ok-new-2.ensures)
      (reads_Or c.args.self.now c.terms.self c.advance.new.self c.term-in-terms.new.self c.args.texts.now c.terms.texts c.term-in-terms.new.texts c.terms.left c.in_ok-right.right c.terms.invariant.0 (key_taken c.terms.self c.advance.new.self key.Or (sym (c.sees.ensures.0 c.terms-test.true)) c.advance.ensures) c.in_ok-right.ensures.reads)),
  c.in_ok-right.ensures.whole,
)

pub term-returns-in_err-left-clause-stops : goal.term-returns-in_err-left-clause-stops
term-returns-in_err-left-clause-stops t c =
    passed_on c.from_residual.result c.in_err-left.field-0.0 (StopsTerm c.args.self.now c.factor.new.self) c.from_residual.ensures.1
    (stops_Factor c.args.self.now c.factor.new.self c.in_err-left.field-0.0 c.in_err-left.ensures.stops)

pub term-factors-init : goal.term-factors-init
term-factors-init t c =
    reads_Factor c.args.self.now c.factor.new.self c.args.texts.now c.factor.new.texts c.in_ok-left.left c.in_ok-left.ensures.reads

pub term-returns-in_err-right-clause-stops : goal.term-returns-in_err-right-clause-stops
term-returns-in_err-right-clause-stops t c =
    passed_on c.from_residual-in_err-right.result c.in_err-right.field-0.0 (StopsTerm c.args.self.now c.factor-in-factors.new.self) c.from_residual-in_err-right.ensures.1
    (stops_And c.args.self.now c.factors.self c.advance.new.self c.factor-in-factors.new.self c.args.texts.now c.factors.texts c.factors.left c.in_err-right.field-0.0 c.factors.invariant (key_taken c.factors.self c.advance.new.self key.And (sym (c.sees.ensures.0 c.factors-test.true)) c.advance.ensures) c.in_err-right.ensures.stops)

pub term-factors-preserved : goal.term-factors-preserved
term-factors-preserved t c =
    subst (λ l. ReadsTerm c.args.self.now c.factor-in-factors.new.self c.args.texts.now c.factor-in-factors.new.texts (guard.And l c.in_ok-new-2.field-0)) (sym c.in_ok-new.ensures)
    (subst (λ r. ReadsTerm c.args.self.now c.factor-in-factors.new.self c.args.texts.now c.factor-in-factors.new.texts (guard.And c.factors.left r)) (sym c.in_ok-new-2.ensures)
    (reads_And c.args.self.now c.factors.self c.advance.new.self c.factor-in-factors.new.self c.args.texts.now c.factors.texts c.factor-in-factors.new.texts c.factors.left c.in_ok-right.right c.factors.invariant (key_taken c.factors.self c.advance.new.self key.And (sym (c.sees.ensures.0 c.factors-test.true)) c.advance.ensures) c.in_ok-right.ensures.reads))
