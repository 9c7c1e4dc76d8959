use Rattle.std.proofs.Common.{refl}
use Rattle.reo_picture.specs.Picture.{ended, port_line}
use Rattle.reo_picture.proofs.AddsLemmas.{numbered_next}
use Rattle.reo_picture.proofs.picture.push_ports.Goals as goal

pub loop-number-preserved : goal.loop-number-preserved
loop-number-preserved c =
    numbered_next (λ number port. ended (port_line number port.way port.node)) _ _ _ _ _ _ _ c.loop-number-test.true refl c.loop-number.invariant c.in_ok-push_port.ensures
