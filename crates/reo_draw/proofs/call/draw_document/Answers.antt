use Rattle.std.proofs.Common.{ℕ, List, refl, sym, subst}
use Rattle.reo_tool.specs.declared.status.Status.TheVariants.{Done, Refused, Memory}
use Rattle.reo_tool.specs.FaultText.{out_of_memory_text, check_text}
use Rattle.reo_tool.specs.Call.{sink_seen, sinks_seen, IsTold}
use Rattle.reo_tool.proofs.CallLaw.{writes_err, writes_out}
use Rattle.reo_draw.specs.Draw.{IsPictureOf, ForDocument, Picture, Wanting}
use Rattle.reo_draw.proofs.DrawLaw.{check_told}
use Rattle.reo_draw.proofs.call.draw_document.Goals as goal

pub returns-in-Err : goal.returns-in-Err
returns-in-Err g c =
    check_told c.args.document.now c.in-Err.refusal (sinks_seen g.K.Sink g.E.Sink c.args.out.now c.args.err.now) (sinks_seen g.K.Sink g.E.Sink c.args.out.now c.tell_check.new.err) c.tell_check.result
    c.in-Err.ensures.refused
    (subst (λ (nodes : List (List ℕ)). IsTold (sink_seen g.E.Sink c.args.err.now) (sink_seen g.E.Sink c.tell_check.new.err) (check_text nodes c.in-Err.refusal) Refused c.tell_check.result) c.nodes.ensures.nodes c.tell_check.ensures.told)
    c.tell_check.ensures.memory refl

pub returns-in-Ok-picture : goal.returns-in-Ok-picture
returns-in-Ok-picture g c =
    let d = c.args.document.now in
    writes_out (ForDocument d) (sinks_seen g.K.Sink g.E.Sink c.args.out.now c.args.err.now) (sinks_seen g.K.Sink g.E.Sink c.tell.new.sink c.args.err.now) c.as_slice.result.now Done c.tell.result
    (Picture c.as_slice.result.now (subst (IsPictureOf d) (sym c.as_slice.ensures.value) c.in-Ok-picture.ensures)) c.tell.ensures.told refl

pub returns : goal.returns
returns g c =
    writes_err (ForDocument c.args.document.now) (sinks_seen g.K.Sink g.E.Sink c.args.out.now c.args.err.now) (sinks_seen g.K.Sink g.E.Sink c.args.out.now c.tell_memory.new.err) out_of_memory_text Memory c.tell_memory.result
    Wanting c.tell_memory.ensures.told refl
