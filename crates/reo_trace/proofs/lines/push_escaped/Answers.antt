use Rattle.std.proofs.Common.{refl}
use Rattle.reo_trace.proofs.BufferLemmas.{Takes-err, HasTaken-next, LacksRoom-at}
use Rattle.reo_trace.specs.ReportText.{escaped}
use Rattle.reo_trace.proofs.lines.push_escaped.Goals as goal

pub returns-in_err-push_escaped_byte : goal.returns-in_err-push_escaped_byte
returns-in_err-push_escaped_byte c =
    Takes-err _ _ _ _ c.from_residual.ensures.0
    (LacksRoom-at escaped _ _ _ _ _ _ 0 c.loop-byte-test.true refl c.loop-byte.invariant c.in_err-push_escaped_byte.ensures)

pub loop-byte-preserved : goal.loop-byte-preserved
loop-byte-preserved c =
    HasTaken-next escaped _ _ _ _ _ _ 0 c.loop-byte-test.true refl c.loop-byte.invariant c.in_ok-push_escaped_byte.ensures
