use Rattle.std.proofs.Common.{◌≡◌, drop}
use Rattle.reo_session.specs.Running.{same_lengths}
use Rattle.reo_session.proofs.progress.first_waiting.Given as goal

abbrev pub invariant-loop-component : goal.invariant-loop-component
invariant-loop-component l = same_lengths l.scripts l.calls ≡ same_lengths (drop l.component l.scripts) (drop l.component l.calls)
