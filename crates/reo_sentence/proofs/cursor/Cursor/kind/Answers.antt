use Rattle.std.proofs.Common.{IfErr, sym, subst}
use Rattle.reo_grammar.specs.Machine.Lines.{FilterWord, TransformWord}
use Rattle.reo_net.specs.declared.kind.Kind.TheVariants as net
use Rattle.reo_sentence.specs.LineReading.{StopsKind, ReadsKind, channel_word}
use Rattle.reo_sentence.proofs.ReadingLemmas.{passed_on}
use Rattle.reo_sentence.proofs.KindLemmas.{reads_sync, reads_lossy, reads_drain, reads_filter, reads_transform, stops_filter, stops_transform}
use Rattle.reo_sentence.proofs.cursor.Cursor.kind.Goals as goal

pub returns-in-Sync-clause-reads : goal.returns-in-Sync-clause-reads
returns-in-Sync-clause-reads c =
    subst (λ w. ReadsKind (channel_word w) c.args.self.now c.args.self.now c.args.texts.now c.args.texts.now net.Sync) (sym c.in-Sync.is) (reads_sync c.args.self.now c.args.texts.now)

pub returns-in-Lossy-clause-reads : goal.returns-in-Lossy-clause-reads
returns-in-Lossy-clause-reads c =
    subst (λ w. ReadsKind (channel_word w) c.args.self.now c.args.self.now c.args.texts.now c.args.texts.now net.Lossy) (sym c.in-Lossy.is) (reads_lossy c.args.self.now c.args.texts.now)

pub returns-in-Drain-clause-reads : goal.returns-in-Drain-clause-reads
returns-in-Drain-clause-reads c =
    subst (λ w. ReadsKind (channel_word w) c.args.self.now c.args.self.now c.args.texts.now c.args.texts.now net.Drain) (sym c.in-Drain.is) (reads_drain c.args.self.now c.args.texts.now)

pub returns-in_err-guard-in-Filter-clause-stops : goal.returns-in_err-guard-in-Filter-clause-stops
returns-in_err-guard-in-Filter-clause-stops c =
    subst (λ w. IfErr c.from_residual.result (StopsKind (channel_word w) c.args.self.now c.guard.new.self)) (sym c.in-Filter.is)
    (passed_on c.from_residual.result c.in_err-guard-in-Filter.field-0.0 (StopsKind FilterWord c.args.self.now c.guard.new.self) c.from_residual.ensures.1
    (stops_filter c.args.self.now c.guard.new.self c.in_err-guard-in-Filter.field-0.0 c.in_err-guard-in-Filter.ensures.stops))

pub returns-in_err-function-in-Transform-clause-stops : goal.returns-in_err-function-in-Transform-clause-stops
returns-in_err-function-in-Transform-clause-stops c =
    subst (λ w. IfErr c.from_residual-in_err-function-in-Transform.result (StopsKind (channel_word w) c.args.self.now c.function.new.self)) (sym c.in-Transform.is)
    (passed_on c.from_residual-in_err-function-in-Transform.result c.in_err-function-in-Transform.field-0.0 (StopsKind TransformWord c.args.self.now c.function.new.self) c.from_residual-in_err-function-in-Transform.ensures.1
    (stops_transform c.args.self.now c.function.new.self c.in_err-function-in-Transform.field-0.0 c.in_err-function-in-Transform.ensures.stops))

pub returns-in_ok-guard-in-Filter-clause-reads : goal.returns-in_ok-guard-in-Filter-clause-reads
returns-in_ok-guard-in-Filter-clause-reads c =
    subst (λ w. ReadsKind (channel_word w) c.args.self.now c.guard.new.self c.args.texts.now c.guard.new.texts (net.Filter c.in_ok-guard-in-Filter.field-0)) (sym c.in-Filter.is)
    (reads_filter c.args.self.now c.guard.new.self c.args.texts.now c.guard.new.texts c.in_ok-guard-in-Filter.field-0 c.in_ok-guard-in-Filter.ensures.reads c.in_ok-guard-in-Filter.ensures.whole)

pub returns-in_ok-function-in-Transform-clause-reads : goal.returns-in_ok-function-in-Transform-clause-reads
returns-in_ok-function-in-Transform-clause-reads c =
    subst (λ w. ReadsKind (channel_word w) c.args.self.now c.function.new.self c.args.texts.now c.function.new.texts (net.Transform c.in_ok-function-in-Transform.field-0)) (sym c.in-Transform.is)
    (reads_transform c.args.self.now c.function.new.self c.args.texts.now c.function.new.texts c.in_ok-function-in-Transform.field-0 c.in_ok-function-in-Transform.ensures.reads)
