use Rattle.reo_schedule.specs.Values.{HasValues}
use Rattle.reo_session.proofs.ProgressLemmas.{AreFirst}
use Rattle.reo_session.proofs.progress.known_channels.Given as goal

abbrev pub invariant-loop-channel : goal.invariant-loop-channel
invariant-loop-channel l = AreFirst (λ channel. HasValues channel.kind) l.channels l.channel-index
