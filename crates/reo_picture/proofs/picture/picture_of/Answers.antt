use Rattle.std.proofs.Common.{List, length, sym, ap, subst, arith}
use Rattle.reo_net.specs.declared.circuit.Channel.{Channel}
use Rattle.reo_net.specs.declared.circuit.Port.{Port}
use Rattle.reo_trace.specs.Buffer.{HasTaken}
use Rattle.reo_trace.specs.Passes.{numbered}
use Rattle.reo_trace.proofs.BufferLemmas.{HasTaken-trans}
use Rattle.reo_picture.specs.Picture.{ended, port_line, channel_line}
use Rattle.reo_picture.proofs.AddsLemmas.{whole, picture_parts}
use Rattle.reo_picture.proofs.picture.picture_of.Goals as goal

pub push_ports-requires : goal.push_ports-requires
push_ports-requires c = omega (arith, c.ports.ensures.checked.few_ports, ap length c.ports.ensures.ports)

pub push_channels-requires : goal.push_channels-requires
push_channels-requires c = omega (arith, c.channels.ensures.checked.few_channels, ap length c.channels.ensures.channels)

pub returns : goal.returns
returns c =
    let ports = subst (λ (ports : List Port). HasTaken c.push_line.new.buffer c.push_ports.new.buffer (numbered (λ number port. ended (port_line number port.way port.node)) 0 ports)) c.ports.ensures.ports c.in_ok-push_ports.ensures in
    let channels = subst (λ (channels : List Channel). HasTaken c.push_line-2.new.buffer c.push_channels.new.buffer (numbered (λ number channel. ended (channel_line c.args.texts.now number channel)) 0 channels)) c.channels.ensures.channels c.in_ok-push_channels.ensures in
    let nodes = HasTaken-trans _ _ _ _ _ (HasTaken-trans _ _ _ _ _ c.in_ok-push_opening.ensures c.in_ok-push_regions.ensures) c.in_ok-push_nodes.ensures in
    let all = HasTaken-trans _ _ _ _ _ (HasTaken-trans _ _ _ _ _ (HasTaken-trans _ _ _ _ _ (HasTaken-trans _ _ _ _ _ (HasTaken-trans _ _ _ _ _ nodes c.in_ok-push_line.ensures) ports) c.in_ok-push_line-2.ensures) channels) c.in_ok-push_line-3.ensures in
    record { text = whole _ _ _ _ c.new-text.ensures.items all (sym (picture_parts c.args.net.now c.args.nodes.now c.args.texts.now c.args.cut.now)) }
