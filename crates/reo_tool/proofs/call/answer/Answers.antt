use Rattle.std.proofs.Common.{ℕ, List, length, refl, sym, ap, subst, ◌∙◌, arith}
use Rattle.std.specs.Prelude.{Err}
use Rattle.reo_base.specs.Streams.{IsReadWhole}
use Rattle.reo_tool.specs.declared.status.Status.TheVariants.{Usage, ReadFault, Memory}
use Rattle.reo_tool.specs.FaultText.{usage_text, read_failed_text, too_long_text, out_of_memory_text}
use Rattle.reo_tool.specs.Call.{source_seen, sinks_seen, ForBytes, ForCall, Read, NoCommand, ReadFailed, TooLong, ReadWanting}
use Rattle.reo_tool.proofs.CallLaw.{writes_as, writes_err}
use Rattle.reo_tool.proofs.call.answer.Goals as goal

pub returns-in_default-clause-cause : goal.returns-in_default-clause-cause
returns-in_default-clause-cause g c =
    writes_err (ForCall c.args.words.now (source_seen g.S.Source c.args.source.now) (source_seen g.S.Source c.args.source.now)) (sinks_seen g.K.Sink g.E.Sink c.args.out.now c.args.err.now)
    (sinks_seen g.K.Sink g.E.Sink c.args.out.now c.tell.new.sink) usage_text Usage c.tell.result (NoCommand (sym c.command_of.ensures.command ∙ c.in_default.is) refl) c.tell.ensures.told refl

pub returns-in-Ok-clause-cause : goal.returns-in-Ok-clause-cause
returns-in-Ok-clause-cause g c =
    let before = source_seen g.S.Source c.args.source.now in
    let after = source_seen g.S.Source c.read_all.new.source in
    let command = c.in-Some.command in
    let read = subst (λ (bytes : List ℕ). IsReadWhole before.left after.left bytes) (sym c.as_slice.ensures.value) c.in-Ok.ensures.whole in
    writes_as (ForBytes command c.as_slice.result.now) (ForCall c.args.words.now before after) (sinks_seen g.K.Sink g.E.Sink c.args.out.now c.args.err.now)
    (sinks_seen g.K.Sink g.E.Sink c.answer_bytes.new.out c.answer_bytes.new.err) c.answer_bytes.result
    (λ target told own has. Read command c.as_slice.result.now target told own (sym c.command_of.ensures.command ∙ c.in-Some.is) read (omega (arith, c.in-Ok.ensures.within, c.in-Ok.bytes.ok, ap length c.as_slice.ensures.value)) (c.in-Ok.ensures.kept (λ is. cc)) has)
    c.answer_bytes.ensures

pub returns-in-Err-Fault-clause-cause : goal.returns-in-Err-Fault-clause-cause
returns-in-Err-Fault-clause-cause g c =
    writes_err (ForCall c.args.words.now (source_seen g.S.Source c.args.source.now) (source_seen g.S.Source c.read_all.new.source)) (sinks_seen g.K.Sink g.E.Sink c.args.out.now c.args.err.now)
    (sinks_seen g.K.Sink g.E.Sink c.args.out.now c.tell-in-Err-Fault.new.sink) read_failed_text ReadFault c.tell-in-Err-Fault.result
    (ReadFailed c.in-Some.command (sym c.command_of.ensures.command ∙ c.in-Some.is) (c.in-Err-Fault.ensures.fault (ap Err c.in-Err-Fault.field-0-is)) (c.in-Err-Fault.ensures.untaken (λ is. cc))) c.tell-in-Err-Fault.ensures.told refl

pub returns-in-Err-TooLong-clause-cause : goal.returns-in-Err-TooLong-clause-cause
returns-in-Err-TooLong-clause-cause g c =
    writes_err (ForCall c.args.words.now (source_seen g.S.Source c.args.source.now) (source_seen g.S.Source c.read_all.new.source)) (sinks_seen g.K.Sink g.E.Sink c.args.out.now c.args.err.now)
    (sinks_seen g.K.Sink g.E.Sink c.args.out.now c.tell-in-Err-TooLong.new.sink) too_long_text ReadFault c.tell-in-Err-TooLong.result
    (TooLong c.in-Some.command (sym c.command_of.ensures.command ∙ c.in-Some.is) (c.in-Err-TooLong.ensures.too_long (ap Err c.in-Err-TooLong.field-0-is)) (c.in-Err-TooLong.ensures.taken (ap Err c.in-Err-TooLong.field-0-is))) c.tell-in-Err-TooLong.ensures.told refl

pub returns-in-Err-NoMemory-clause-cause : goal.returns-in-Err-NoMemory-clause-cause
returns-in-Err-NoMemory-clause-cause g c =
    writes_err (ForCall c.args.words.now (source_seen g.S.Source c.args.source.now) (source_seen g.S.Source c.read_all.new.source)) (sinks_seen g.K.Sink g.E.Sink c.args.out.now c.args.err.now)
    (sinks_seen g.K.Sink g.E.Sink c.args.out.now c.tell_memory.new.err) out_of_memory_text Memory c.tell_memory.result
    (ReadWanting c.in-Some.command (sym c.command_of.ensures.command ∙ c.in-Some.is) (c.in-Err-NoMemory.ensures.kept (λ is. cc)) (c.in-Err-NoMemory.ensures.untaken (λ is. cc))) c.tell_memory.ensures.told refl
