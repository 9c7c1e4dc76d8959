use Rattle.std.proofs.Common.{sym, subst, ◌∙◌, refl}
use Rattle.reo_document.specs.Spells.{Spells}
use Rattle.reo_tool.specs.declared.command.Command.TheVariants.{Show}
use Rattle.reo_tool.specs.declared.status.Status.TheVariants.{Done, Memory}
use Rattle.reo_tool.specs.FaultText.{out_of_memory_text}
use Rattle.reo_tool.specs.Call.{sinks_seen, ForDocument, Answer, Wanting}
use Rattle.reo_tool.proofs.CallLaw.{writes_err, writes_out}
use Rattle.reo_tool.proofs.call.show_document.Goals as goal

pub returns-in-Ok : goal.returns-in-Ok
returns-in-Ok g c =
    writes_out (ForDocument Show c.args.document.now) (sinks_seen g.K.Sink g.E.Sink c.args.out.now c.args.err.now) (sinks_seen g.K.Sink g.E.Sink c.tell.new.sink c.args.err.now) c.as_slice.result.now Done c.tell.result
    (Answer c.as_slice.result.now Done (record { canonical = c.as_slice.ensures.value ∙ c.in-Ok.ensures.canonical; again = subst (λ text. Spells text c.args.document.now) (sym c.as_slice.ensures.value) c.in-Ok.ensures.again }, refl)) c.tell.ensures.told refl

pub returns-in-Err : goal.returns-in-Err
returns-in-Err g c =
    writes_err (ForDocument Show c.args.document.now) (sinks_seen g.K.Sink g.E.Sink c.args.out.now c.args.err.now) (sinks_seen g.K.Sink g.E.Sink c.args.out.now c.tell_memory.new.err) out_of_memory_text Memory c.tell_memory.result
    Wanting c.tell_memory.ensures.told refl
