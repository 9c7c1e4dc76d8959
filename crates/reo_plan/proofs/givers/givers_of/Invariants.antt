use Rattle.std.proofs.Common.{◌≡◌, map, take}
use Rattle.reo_flow.specs.Flow.{giver_of}
use Rattle.reo_plan.proofs.givers.givers_of.Given as goal

abbrev pub invariant-loop-name : goal.invariant-loop-name
invariant-loop-name l = l.givers.items ≡ map (giver_of l.net l.names) (take l.name-index l.names)
