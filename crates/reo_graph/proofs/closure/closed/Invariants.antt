use Rattle.std.proofs.Common.{◌≡◌, ℕ, map}
use Rattle.reo_graph.specs.Closure.{goes, bit}
use Rattle.reo_graph.proofs.closure.closed.Given as goal

abbrev pub invariant-loop-via : goal.invariant-loop-via
invariant-loop-via l = (i j : ℕ) → bit (map (λ row. row.items) l.table.items) i j ≡ goes (bit (map (λ row. row.items) l.fn.table.items)) l.via i j
