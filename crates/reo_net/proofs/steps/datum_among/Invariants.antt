use Rattle.std.proofs.Common.{◌≡◌, nat_eq, drop}
use Rattle.std.specs.Map.{lookup}
use Rattle.reo_net.proofs.steps.datum_among.Given as goal

abbrev pub invariant-loop-pair : goal.invariant-loop-pair
invariant-loop-pair l = lookup (nat_eq l.name) (drop l.pair-index l.pairs) ≡ lookup (nat_eq l.name) l.pairs
