use Rattle.std.proofs.Common.{◌≡◌, map, nat_eq, take}
use Rattle.reo_graph.proofs.loops.next_edges.Given as goal

abbrev pub invariant-loop-next : goal.invariant-loop-next
invariant-loop-next l = l.marks.items ≡ map (λ next. nat_eq l.vertex next.0) (take l.next-index l.edges)
