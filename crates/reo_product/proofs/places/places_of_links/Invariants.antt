use Rattle.std.proofs.Common.{length}
use Rattle.reo_product.proofs.TurnLemmas.{AreTaken}
use Rattle.reo_product.proofs.places.places_of_links.Given as goal

abbrev pub invariant-loop-link : goal.invariant-loop-link
invariant-loop-link l = AreTaken l.names l.fn.links l.links l.placed.items

abbrev pub decreases-loop-link : goal.decreases-loop-link
decreases-loop-link l = length l.links
