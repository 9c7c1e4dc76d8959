use Rattle.std.proofs.Common.{take}
use Rattle.std.specs.List.{flat_map}
use Rattle.reo_trace.specs.Buffer.{HasTaken}
use Rattle.reo_print.specs.Canonical.{operation_line}
use Rattle.reo_print.proofs.document.push_operations.Given as goal

abbrev pub invariant-loop-operation : goal.invariant-loop-operation
invariant-loop-operation l = HasTaken l.initial.buffer l.buffer (flat_map (operation_line l.nodes l.texts l.ports) (take l.operation-index l.script))
