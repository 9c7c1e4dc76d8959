use Rattle.std.proofs.Common.{sym, subst}
use Rattle.reo_trace.specs.Buffer.{HasTaken}
use Rattle.reo_trace.proofs.BufferLemmas.{HasTaken-trans}
use Rattle.reo_trace.proofs.ListLemmas.{numbered-next}
use Rattle.reo_print.specs.Canonical.{script_lines}
use Rattle.reo_print.proofs.document.push_scripts.Goals as goal

pub loop-number-preserved : goal.loop-number-preserved
loop-number-preserved c =
    subst (HasTaken c.args.buffer.now c.push_script.new.buffer) (sym (numbered-next (script_lines c.args.document.now) _ _ c.index-scripts-number.result _ c.loop-number-test.true (sym c.index-scripts-number.is)))
    (HasTaken-trans _ _ _ _ _ c.loop-number.invariant
    (subst (λ script. HasTaken c.loop-number.buffer c.push_script.new.buffer (script_lines c.args.document.now c.loop-number.number script)) c.as_slice.ensures c.in_ok-push_script.ensures))
