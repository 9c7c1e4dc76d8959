use Rattle.std.proofs.Common.{◌≡◌, ℕ, ◌<◌}
use Rattle.reo_net.specs.Names.{IsOutgoing}
use Rattle.reo_net.specs.Steps.{datum}
use Rattle.reo_net.proofs.steps.all_get.Given as goal

abbrev pub invariant-loop-name : goal.invariant-loop-name
invariant-loop-name l = (name : ℕ) → name < l.name → IsOutgoing l.net l.node name → datum l.step name ≡ l.wanted
