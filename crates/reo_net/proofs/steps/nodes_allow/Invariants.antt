use Rattle.std.proofs.Common.{ℕ, ◌<◌}
use Rattle.reo_net.specs.Steps.{datum, NodeAllows}
use Rattle.reo_net.proofs.steps.nodes_allow.Given as goal

abbrev pub invariant-loop-node : goal.invariant-loop-node
invariant-loop-node l = (node : ℕ) → node < l.node → NodeAllows l.net node (datum l.step)
