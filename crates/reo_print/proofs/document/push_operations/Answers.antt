use Rattle.std.proofs.Common.{sym}
use Rattle.reo_trace.proofs.BufferLemmas.{HasTaken-next}
use Rattle.reo_print.specs.Canonical.{operation_line}
use Rattle.reo_print.proofs.document.push_operations.Goals as goal

pub loop-operation-preserved : goal.loop-operation-preserved
loop-operation-preserved c =
    HasTaken-next (operation_line c.args.nodes.now c.args.texts.now c.args.ports.now) _ _ _ _ _ c.operation-item.result _ c.loop-operation-test.true (sym c.operation-item.is) c.loop-operation.invariant c.in_ok-push_operation.ensures
