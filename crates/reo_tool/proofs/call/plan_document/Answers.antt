use Rattle.std.proofs.Common.{ℕ, List, ◌∙◌, refl, subst}
use Rattle.reo_tool.specs.declared.command.Command.TheVariants.{Plan}
use Rattle.reo_tool.specs.declared.status.Status.TheVariants.{Done, Refused, Memory}
use Rattle.reo_tool.specs.FaultText.{out_of_memory_text, session_text}
use Rattle.reo_tool.specs.Call.{sink_seen, sinks_seen, IsTold, ForDocument, Answer, Wanting}
use Rattle.reo_tool.proofs.RefusalLaw.{prepared_accepted}
use Rattle.reo_tool.proofs.CallLaw.{session_told, writes_err, writes_out}
use Rattle.reo_tool.proofs.call.plan_document.Goals as goal

pub returns-in-Err : goal.returns-in-Err
returns-in-Err g c =
    session_told Plan c.args.document.now c.in-Err.refusal (sinks_seen g.K.Sink g.E.Sink c.args.out.now c.args.err.now) (sinks_seen g.K.Sink g.E.Sink c.args.out.now c.tell_session.new.err) c.tell_session.result
    (λ told is. is) c.in-Err.ensures.refused
    (subst (λ (nodes : List (List ℕ)). IsTold (sink_seen g.E.Sink c.args.err.now) (sink_seen g.E.Sink c.tell_session.new.err) (session_text nodes c.in-Err.refusal) Refused c.tell_session.result) c.nodes.ensures.nodes c.tell_session.ensures.told)
    c.tell_session.ensures.memory refl

pub returns-in-Ok-outline : goal.returns-in-Ok-outline
returns-in-Ok-outline g c =
    let d = c.args.document.now in
    let p = c.in-Ok.ensures.prepared in
    writes_out (ForDocument Plan d) (sinks_seen g.K.Sink g.E.Sink c.args.out.now c.args.err.now) (sinks_seen g.K.Sink g.E.Sink c.tell.new.sink c.args.err.now) c.as_slice.result.now Done c.tell.result
    (Answer c.as_slice.result.now Done (
      record {
        accepted = prepared_accepted d c.in-Ok.prepared p;
        cut = c.in-Ok.prepared.cut;
        is_cut = p.is_cut;
        tables = c.in-Ok.prepared.tables;
        are_tables = p.are_tables;
        told = c.as_slice.ensures.value ∙ c.in-Ok-outline.ensures;
      },
      refl,
    )) c.tell.ensures.told refl

pub returns : goal.returns
returns g c =
    writes_err (ForDocument Plan c.args.document.now) (sinks_seen g.K.Sink g.E.Sink c.args.out.now c.args.err.now) (sinks_seen g.K.Sink g.E.Sink c.args.out.now c.tell_memory.new.err) out_of_memory_text Memory c.tell_memory.result
    Wanting c.tell_memory.ensures.told refl
