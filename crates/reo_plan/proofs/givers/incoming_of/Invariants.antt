use Rattle.std.proofs.Common.{◌≡◌, take}
use Rattle.reo_plan.specs.inside.Cells.{incoming_of}
use Rattle.reo_plan.proofs.givers.incoming_of.Given as goal

abbrev pub invariant-loop-name : goal.invariant-loop-name
invariant-loop-name l = l.pairs.items ≡ incoming_of l.net (take l.name-index l.names)
