use Rattle.std.proofs.Common.{List, length, ◌*◌, ◌+◌, ap}
use Rattle.reo_net.specs.declared.circuit.Port.{Port}
use Rattle.reo_automata.proofs.TemplateLaw.{of_channel, of_node}
use Rattle.reo_automata.proofs.template.template_of.Goals as goal

pub returns-in_ok-template : goal.returns-in_ok-template
returns-in_ok-template c = record {
  exact = of_channel c.args.net.now c.args.auto c.in_ok-template.template c.channels-channels.result.now c.index-channels-number.result (length c.ports.result.now + 2 * c.args.auto) c.channels-channels.ensures.channels c.if-number-channels.true
      (ap (λ (ports : List Port). length ports + 2 * c.args.auto) c.ports.ensures.ports) c.in_ok-template.ensures;
}

pub returns-in_ok-template-2 : goal.returns-in_ok-template-2
returns-in_ok-template-2 c = record {
  exact = of_node c.args.net.now c.args.auto c.in_ok-template-2.template c.channels-channels.result.now c.channels-channels.ensures.channels c.if-number-channels.false c.in_ok-template-2.ensures;
}
