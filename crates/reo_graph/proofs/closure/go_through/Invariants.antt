use Rattle.std.proofs.Common.{map}
use Rattle.reo_graph.proofs.TableLemmas.{Half}
use Rattle.reo_graph.proofs.closure.go_through.Given as goal

abbrev pub invariant-loop-row : goal.invariant-loop-row
invariant-loop-row l = Half (map (λ row. row.items) l.fn.table.items) (map (λ row. row.items) l.row-items) l.via l.middle l.row-index
