use Rattle.std.proofs.Common.{sym}
use Rattle.reo_trace.proofs.BufferLemmas.{HasTaken-next}
use Rattle.reo_trace.specs.ReportText.{pair_text}
use Rattle.reo_trace.proofs.lines.push_pairs.Goals as goal

pub loop-pair-preserved : goal.loop-pair-preserved
loop-pair-preserved c =
    HasTaken-next (pair_text c.args.net.now c.args.nodes.now c.args.texts.now) _ _ _ _ _ c.pair-item.result _ c.loop-pair-test.true (sym c.pair-item.is) c.loop-pair.invariant c.in_ok-push_pair.ensures.taken
