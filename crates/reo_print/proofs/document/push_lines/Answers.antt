use Rattle.std.proofs.Common.{sym}
use Rattle.reo_trace.proofs.BufferLemmas.{HasTaken-next}
use Rattle.reo_print.specs.Canonical.{circuit_line}
use Rattle.reo_print.proofs.document.push_lines.Goals as goal

pub loop-line-preserved : goal.loop-line-preserved
loop-line-preserved c =
    HasTaken-next (circuit_line c.args.nodes.now c.args.texts.now) _ _ _ _ _ c.line-item.result _ c.loop-line-test.true (sym c.line-item.is) c.loop-line.invariant c.in_ok-push_line.ensures
