use Rattle.std.proofs.Common.{refl, arith}
use Rattle.reo_document.proofs.PortLemmas.{ports_claimed, count_few}
use Rattle.reo_document.proofs.builder.Builder.add_port.Goals as goal

pub returns-clause-ports : goal.returns-clause-ports
returns-clause-ports c =
    ports_claimed c.args.self.now.ports.items c.claim_port.new.ports.items c.args.self.now.port_count _ c.args.self.now.lines.items _ c.args.way c.in_ok-node.node c.requires.ports c.in_ok-push.ensures.items c.in_ok-claim_port.ensures refl

pub overflow_add-self : goal.overflow_add-self
overflow_add-self c = omega (arith, c.requires.ports.counted, count_few c.args.self.now.lines.items, c.requires.lines)
