use Rattle.std.proofs.Common.{refl}
use Rattle.reo_tool.specs.Call.{sinks_seen}
use Rattle.reo_tool.proofs.CallLaw.{writes_as}
use Rattle.reo_draw.specs.Draw.{ForDocument, ForBytes, Spelled}
use Rattle.reo_draw.proofs.DrawLaw.{bytes_told}
use Rattle.reo_draw.proofs.call.draw_bytes.Goals as goal

pub returns-in-Ok : goal.returns-in-Ok
returns-in-Ok g c =
    writes_as (ForDocument c.in-Ok.document) (ForBytes c.args.bytes.now) (sinks_seen g.K.Sink g.E.Sink c.args.out.now c.args.err.now)
    (sinks_seen g.K.Sink g.E.Sink c.draw_document.new.out c.draw_document.new.err) c.draw_document.result (λ target told own has. Spelled c.in-Ok.document target told own c.in-Ok.ensures.spells has) c.draw_document.ensures

pub returns-in-Err : goal.returns-in-Err
returns-in-Err g c =
    bytes_told c.args.bytes.now c.in-Err.refusal (sinks_seen g.K.Sink g.E.Sink c.args.out.now c.args.err.now) (sinks_seen g.K.Sink g.E.Sink c.args.out.now c.tell_text.new.err) c.tell_text.result
    c.in-Err.ensures.refused c.tell_text.ensures.told c.tell_text.ensures.memory refl
