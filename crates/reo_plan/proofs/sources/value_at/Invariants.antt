use Rattle.std.proofs.Common.{◌≡◌, drop}
use Rattle.reo_fabric.specs.Entry.{at_place}
use Rattle.reo_plan.proofs.sources.value_at.Given as goal

abbrev pub invariant-loop-own : goal.invariant-loop-own
invariant-loop-own l = at_place (drop l.own-index l.places) l.place ≡ at_place l.places l.place
