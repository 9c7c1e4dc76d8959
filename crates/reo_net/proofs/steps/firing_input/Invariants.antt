use Rattle.std.proofs.Common.{ℕ, ◌<◌}
use Rattle.reo_net.specs.Steps.{datum}
use Rattle.reo_net.specs.Parts.{IsInput}
use Rattle.reo_net.proofs.steps.firing_input.Given as goal

abbrev pub invariant-loop-name : goal.invariant-loop-name
invariant-loop-name l = (name : ℕ) → name < l.name → IsInput l.net l.node (datum l.step) name → ⊥
