use Rattle.std.proofs.Common.{sym}
use Rattle.reo_trace.proofs.BufferLemmas.{HasTaken-next}
use Rattle.reo_print.specs.Canonical.{next_text}
use Rattle.reo_print.proofs.function.push_further.Goals as goal

pub loop-pair-preserved : goal.loop-pair-preserved
loop-pair-preserved c =
    HasTaken-next (next_text c.args.texts.now) _ _ _ _ _ c.pair-item.result _ c.loop-pair-test.true (sym c.pair-item.is) c.loop-pair.invariant c.in_ok-push_next.ensures
