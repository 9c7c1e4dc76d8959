use Rattle.std.proofs.Common.{arith}
use Rattle.std.proofs.lemmas.Grind.{common_steps}
use Rattle.reo_schedule.specs.Values.{HasValues}
use Rattle.reo_session.proofs.ProgressLemmas.{first_more, first_all}
use Rattle.reo_session.proofs.progress.known_channels.Goals as goal

pub loop-channel-preserved : goal.loop-channel-preserved
loop-channel-preserved c = first_more (λ channel. HasValues channel.kind) c.args.channels.now c.loop-channel.channel-index c.channel-item.result c.loop-channel.invariant c.channel-item.is c.known_kind.ensures

pub returns : goal.returns
returns c = first_all (λ channel. HasValues channel.kind) c.args.channels.now c.loop-channel.channel-index c.loop-channel.invariant (grind (arith, common_steps, c.loop-channel-test.false))
