use Rattle.std.proofs.Common.{◌≡◌, [], map, take}
use Rattle.reo_session.proofs.progress.no_calls.Given as goal

abbrev pub invariant-loop-script : goal.invariant-loop-script
invariant-loop-script l = l.calls.items ≡ map (λ script. []) (take l._script-index l.scripts)
