use Rattle.std.proofs.Common.{ℕ, List, ap, ◌∙◌, refl, subst}
use Rattle.reo_tool.specs.declared.command.Command.TheVariants.{Run}
use Rattle.reo_tool.specs.declared.status.Status.TheVariants.{Refused, Memory}
use Rattle.reo_tool.specs.Status.{status_of}
use Rattle.reo_tool.specs.declared.status.Status.{Status}
use Rattle.reo_tool.specs.FaultText.{out_of_memory_text, session_text}
use Rattle.reo_tool.specs.Call.{sink_seen, sinks_seen, IsTold, IsWritten, ForDocument, Answer, Wanting}
use Rattle.reo_tool.proofs.RefusalLaw.{prepared_accepted}
use Rattle.reo_tool.proofs.CallLaw.{session_told, writes_err, writes_out}
use Rattle.reo_tool.proofs.call.run_document.Goals as goal

pub returns-in-Err : goal.returns-in-Err
returns-in-Err g c =
    session_told (Run c.args.limit) c.args.document.now c.in-Err.refusal (sinks_seen g.K.Sink g.E.Sink c.args.out.now c.args.err.now) (sinks_seen g.K.Sink g.E.Sink c.args.out.now c.tell_session.new.err) c.tell_session.result
    (λ told is. is) c.in-Err.ensures.refused
    (subst (λ (nodes : List (List ℕ)). IsTold (sink_seen g.E.Sink c.args.err.now) (sink_seen g.E.Sink c.tell_session.new.err) (session_text nodes c.in-Err.refusal) Refused c.tell_session.result) c.nodes.ensures.nodes c.tell_session.ensures.told)
    c.tell_session.ensures.memory refl

pub returns-in-Ok-text_of_run : goal.returns-in-Ok-text_of_run
returns-in-Ok-text_of_run g c =
    let before = sinks_seen g.K.Sink g.E.Sink c.args.out.now c.args.err.now in
    let after = sinks_seen g.K.Sink g.E.Sink c.tell.new.sink c.args.err.now in
    let d = c.args.document.now in
    let run = c.in-Ok-text_of_run.ensures in
    let text = c.in-Ok-text_of_run.text.bytes.items in
    writes_out (ForDocument (Run c.args.limit) d) before after text (status_of run.report.ending) c.tell.result
    (Answer text (status_of run.report.ending) (record {
      accepted = prepared_accepted d c.in-Ok.prepared c.in-Ok.ensures.prepared;
      report = run.report;
      plain = run.plain;
      told = run.bytes;
      ending = refl;
    }))
    (subst (λ (bytes : List ℕ). IsWritten (sink_seen g.K.Sink c.args.out.now) (sink_seen g.K.Sink c.tell.new.sink) bytes (status_of run.report.ending) c.tell.result) c.as_slice.ensures.value
    (subst (λ (s : Status). IsWritten (sink_seen g.K.Sink c.args.out.now) (sink_seen g.K.Sink c.tell.new.sink) c.as_slice.result.now s c.tell.result) (c.of_ending.ensures ∙ ap status_of run.ending) c.tell.ensures.told))
    refl

pub returns : goal.returns
returns g c =
    writes_err (ForDocument (Run c.args.limit) c.args.document.now) (sinks_seen g.K.Sink g.E.Sink c.args.out.now c.args.err.now) (sinks_seen g.K.Sink g.E.Sink c.args.out.now c.tell_memory.new.err) out_of_memory_text Memory c.tell_memory.result
    Wanting c.tell_memory.ensures.told refl
