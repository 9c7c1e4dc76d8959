use Rattle.std.proofs.Common.{◌≡◌, map}
use Rattle.std.specs.List.{range_with_len}
use Rattle.reo_graph.specs.Closure.{count_below}
use Rattle.reo_cut.specs.Numbers.{is_root}
use Rattle.reo_cut.proofs.regions.counts.Given as goal

abbrev pub invariant-loop-automaton : goal.invariant-loop-automaton
invariant-loop-automaton l = record {
  counts : l.counts.items ≡ map (count_below (is_root l.net l.labels)) (range_with_len 0 l.automaton);
  count : l.count ≡ count_below (is_root l.net l.labels) l.automaton;
}
