use Rattle.reo_product.proofs.TurnLemmas.{AreTurned, IsNameAt}
use Rattle.reo_product.proofs.table.named.Given as goal

abbrev pub invariant-loop-place : goal.invariant-loop-place
invariant-loop-place l = AreTurned (IsNameAt l.names) l.fn.places.items l.place-items l.place-index
