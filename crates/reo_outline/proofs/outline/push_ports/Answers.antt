use Rattle.std.proofs.Common.{refl, get_or}
use Rattle.reo_outline.specs.Outline.{port_line}
use Rattle.reo_outline.proofs.AddsLemmas.{numbered_more}
use Rattle.reo_outline.proofs.outline.push_ports.Goals as goal

pub loop-number-preserved : goal.loop-number-preserved
loop-number-preserved c =
    numbered_more (port_line c.args.net.now c.args.nodes.now) _ _ _ _ _ (get_or c.args.regions.now c.loop-number.number 0) 0 c.loop-number-test.true refl c.loop-number.invariant c.in_ok-push_port.ensures
