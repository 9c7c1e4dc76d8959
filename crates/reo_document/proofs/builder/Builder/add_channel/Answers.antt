use Rattle.reo_document.proofs.BuilderLemmas.{with_channel}
use Rattle.reo_document.proofs.PortLemmas.{ports_stay}
use Rattle.reo_document.proofs.builder.Builder.add_channel.Goals as goal

pub returns-clause-exact : goal.returns-clause-exact
returns-clause-exact c =
    with_channel c.args.self.now.lines.items _ c.args.self.now.nodes _ _ c.args.self.now.texts c.args.self.now.people c.args.self.now.scripts.items c.args.kind c.args.a.now c.args.b.now c.in_ok-first.first c.in_ok-second.second c.in_ok-first.ensures.names c.in_ok-second.ensures.names c.in_ok-first.ensures.number c.in_ok-second.ensures.number c.in_ok-push.ensures.items

pub returns-clause-ports : goal.returns-clause-ports
returns-clause-ports c = ports_stay c.args.self.now.ports.items c.args.self.now.port_count c.args.self.now.lines.items _ _ c.requires.ports c.in_ok-push.ensures.items
