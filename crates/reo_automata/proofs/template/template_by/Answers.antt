use Rattle.std.proofs.Common.{List, length, ◌*◌, ◌+◌, ◌-◌, ◌≡◌, ap, ◌∙◌, arith}
use Rattle.reo_net.specs.declared.circuit.Port.{Port}
use Rattle.reo_automata.proofs.TemplateLaw.{of_channel, of_names}
use Rattle.reo_automata.proofs.template.template_by.Goals as goal

pub returns-in_ok-template : goal.returns-in_ok-template
returns-in_ok-template c = record {
  exact = of_channel c.args.net.now c.args.auto c.in_ok-template.template c.channels-channels.result.now c.index-channels-number.result (length c.ports.result.now + 2 * c.args.auto) c.channels-channels.ensures.channels c.if-number-channels.true
      (ap (λ (ports : List Port). length ports + 2 * c.args.auto) c.ports.ensures.ports) c.in_ok-template.ensures;
}

pub returns-in_ok-template-2 : goal.returns-in_ok-template-2
returns-in_ok-template-2 c =
    let channels = c.channels-channels.result.now in
    let long : length channels ≡ length c.args.net.now.channels = ap length c.channels-channels.ensures.channels in
    let past = c.if-number-channels.false in
    let below = c.requires.below in
    record {
      exact = of_names c.args.net.now c.args.auto c.in_ok-template-2.template channels c.of-list.result.now c.channels-channels.ensures.channels past
          (c.of-list.ensures ∙ c.requires.names.each (c.args.auto - length channels) (omega arith)) c.in_ok-template-2.ensures;
    }
