use Rattle.std.proofs.Common.{◌≡◌, ℕ, ◌<◌, IsTrue}
use Rattle.reo_net.specs.Names.{IsIncoming}
use Rattle.reo_net.specs.Steps.{datum, fires_in}
use Rattle.reo_net.proofs.steps.is_alone.Given as goal

abbrev pub invariant-loop-name : goal.invariant-loop-name
invariant-loop-name l = (name : ℕ) → name < l.name → IsIncoming l.net l.node name → IsTrue (fires_in (datum l.step) name) → name ≡ l.input
