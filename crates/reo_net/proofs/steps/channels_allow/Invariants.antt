use Rattle.std.proofs.Common.{ℕ, ◌<◌}
use Rattle.reo_net.specs.Steps.{datum, ChannelAllows}
use Rattle.reo_net.proofs.steps.channels_allow.Given as goal

abbrev pub invariant-loop-number : goal.invariant-loop-number
invariant-loop-number l = (k : ℕ) → k < l.number → ChannelAllows l.net l.texts k l.old (datum l.step) l.new
