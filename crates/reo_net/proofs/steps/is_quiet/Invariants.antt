use Rattle.std.proofs.Common.{◌≡◌, ℕ, ◌<◌, None}
use Rattle.reo_net.specs.Names.{IsNameOf}
use Rattle.reo_net.specs.Steps.{datum}
use Rattle.reo_net.proofs.steps.is_quiet.Given as goal

abbrev pub invariant-loop-name : goal.invariant-loop-name
invariant-loop-name l = (name : ℕ) → name < l.name → IsNameOf l.net l.node name → datum l.step name ≡ None
