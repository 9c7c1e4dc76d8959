use Rattle.std.proofs.Common.{◌≡◌, map}
use Rattle.std.specs.List.{range_with_len}
use Rattle.reo_cut.specs.Numbers.{region_at}
use Rattle.reo_cut.proofs.regions.region_of.Given as goal

abbrev pub invariant-loop-automaton : goal.invariant-loop-automaton
invariant-loop-automaton l = l.regions.items ≡ map (region_at l.net l.numbers) (range_with_len 0 l.automaton)
