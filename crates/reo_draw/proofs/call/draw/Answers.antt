use Rattle.std.proofs.Common.{ℕ, ◌≡◌, List, length, refl, sym, ap, subst, arith}
use Rattle.std.specs.Prelude.{Err}
use Rattle.reo_base.specs.Streams.{IsReadWhole}
use Rattle.reo_tool.specs.declared.status.Status.TheVariants.{ReadFault, Memory}
use Rattle.reo_tool.specs.FaultText.{read_failed_text, too_long_text, out_of_memory_text}
use Rattle.reo_tool.specs.Call.{source_seen, sinks_seen}
use Rattle.reo_tool.proofs.CallLaw.{writes_as, writes_err}
use Rattle.reo_draw.specs.Draw.{ForBytes, ForDrawing, Read, ReadFailed, TooLong, ReadWanting}
use Rattle.reo_draw.proofs.call.draw.Goals as goal

pub returns-in-Ok : goal.returns-in-Ok
returns-in-Ok g c =
    let before = source_seen g.S.Source c.args.source.now in
    let after = source_seen g.S.Source c.read_all.new.source in
    let read = subst (λ (bytes : List ℕ). IsReadWhole before.left after.left bytes) (sym c.as_slice.ensures.value) c.in-Ok.ensures.whole in
    writes_as (ForBytes c.as_slice.result.now) (ForDrawing before after) (sinks_seen g.K.Sink g.E.Sink c.args.out.now c.args.err.now)
    (sinks_seen g.K.Sink g.E.Sink c.draw_bytes.new.out c.draw_bytes.new.err) c.draw_bytes.result
    (λ target told own has. Read c.as_slice.result.now target told own read (omega (arith, c.in-Ok.ensures.within, c.in-Ok.bytes.ok, ap length c.as_slice.ensures.value)) (c.in-Ok.ensures.kept (λ is. cc)) has)
    c.draw_bytes.ensures

pub returns-in-Err-Fault : goal.returns-in-Err-Fault
returns-in-Err-Fault g c =
    writes_err (ForDrawing (source_seen g.S.Source c.args.source.now) (source_seen g.S.Source c.read_all.new.source)) (sinks_seen g.K.Sink g.E.Sink c.args.out.now c.args.err.now)
    (sinks_seen g.K.Sink g.E.Sink c.args.out.now c.tell.new.sink) read_failed_text ReadFault c.tell.result
    (ReadFailed (c.in-Err-Fault.ensures.fault (ap Err c.in-Err-Fault.field-0-is)) (c.in-Err-Fault.ensures.untaken (λ is. cc))) c.tell.ensures.told refl

pub returns-in-Err-TooLong : goal.returns-in-Err-TooLong
returns-in-Err-TooLong g c =
    writes_err (ForDrawing (source_seen g.S.Source c.args.source.now) (source_seen g.S.Source c.read_all.new.source)) (sinks_seen g.K.Sink g.E.Sink c.args.out.now c.args.err.now)
    (sinks_seen g.K.Sink g.E.Sink c.args.out.now c.tell-in-Err-TooLong.new.sink) too_long_text ReadFault c.tell-in-Err-TooLong.result
    (TooLong (c.in-Err-TooLong.ensures.too_long (ap Err c.in-Err-TooLong.field-0-is)) (c.in-Err-TooLong.ensures.taken (ap Err c.in-Err-TooLong.field-0-is))) c.tell-in-Err-TooLong.ensures.told refl

pub returns-in-Err-NoMemory : goal.returns-in-Err-NoMemory
returns-in-Err-NoMemory g c =
    writes_err (ForDrawing (source_seen g.S.Source c.args.source.now) (source_seen g.S.Source c.read_all.new.source)) (sinks_seen g.K.Sink g.E.Sink c.args.out.now c.args.err.now)
    (sinks_seen g.K.Sink g.E.Sink c.args.out.now c.tell_memory.new.err) out_of_memory_text Memory c.tell_memory.result
    (ReadWanting (c.in-Err-NoMemory.ensures.kept (λ is. cc)) (c.in-Err-NoMemory.ensures.untaken (λ is. cc))) c.tell_memory.ensures.told refl
