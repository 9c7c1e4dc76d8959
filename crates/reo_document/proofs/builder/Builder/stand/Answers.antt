use Rattle.std.proofs.Common.{refl, ap, subst, ◌∙◌}
use Rattle.reo_sentence.specs.Said.{PortSaid, ChannelSaid, name_at, said}
use Rattle.reo_document.specs.Builder.{data_of}
use Rattle.reo_document.specs.Placed.{with_said}
use Rattle.reo_document.specs.Reading.{HasSaid}
use Rattle.reo_document.proofs.ReadLemmas.{OnOk-same, goes_as}
use Rattle.reo_document.proofs.builder.Builder.stand.Goals as goal

pub returns-in-Port-clause-goes : goal.returns-in-Port-clause-goes
returns-in-Port-clause-goes c = λ d has.
    OnOk-same c.add_port.result c.map_err.result c.map_err.ensures.variant
    (λ added. goes_as d (data_of c.args.self.now) (data_of c.add_port.new.self) c.args.number c.args.line.now (PortSaid c.in-Port.way (name_at c.args.line.now c.in-Port.node)) refl
    (added ∙ ap (λ n. with_said (data_of c.args.self.now) (PortSaid c.in-Port.way n)) c.name_in.ensures)
    (subst (HasSaid d c.args.line.now (data_of c.args.self.now)) (ap (said c.args.line.now) c.in-Port.is) has))
    c.add_port.ensures.exact

pub returns-in-Channel-clause-goes : goal.returns-in-Channel-clause-goes
returns-in-Channel-clause-goes c = λ d has.
    OnOk-same c.add_channel.result c.map_err-in-Channel.result c.map_err-in-Channel.ensures.variant
    (λ added. goes_as d (data_of c.args.self.now) (data_of c.add_channel.new.self) c.args.number c.args.line.now
    (ChannelSaid c.in-Channel.kind (name_at c.args.line.now c.in-Channel.a) (name_at c.args.line.now c.in-Channel.b)) refl
    (added ∙ ap (λ n. with_said (data_of c.args.self.now) (ChannelSaid c.in-Channel.kind n c.name_in-in-Channel-2.result.now)) c.name_in-in-Channel.ensures
    ∙ ap (λ n. with_said (data_of c.args.self.now) (ChannelSaid c.in-Channel.kind (name_at c.args.line.now c.in-Channel.a) n)) c.name_in-in-Channel-2.ensures)
    (subst (HasSaid d c.args.line.now (data_of c.args.self.now)) (ap (said c.args.line.now) c.in-Channel.is) has))
    c.add_channel.ensures.exact
