use Rattle.std.proofs.Common.{sym}
use Rattle.reo_trace.specs.ReportText.{call_line}
use Rattle.reo_trace.proofs.BufferLemmas.{HasTaken-next}
use Rattle.reo_trace.proofs.calls.push_own_calls.Goals as goal

pub loop-call-preserved : goal.loop-call-preserved
loop-call-preserved c = (
  HasTaken-next (call_line c.args.net.now c.args.nodes.now c.args.texts.now c.args.person.now) _ _ _ _ _ c.call-item.result _ c.loop-call-test.true (sym c.call-item.is) c.loop-call.invariant.0 c.in_ok-push_call.ensures.line,
  c.in_ok-push_call.ensures.front,
)
