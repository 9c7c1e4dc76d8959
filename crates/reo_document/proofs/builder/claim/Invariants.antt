use Rattle.std.proofs.Common.{◌≡◌, ℕ, ◌+◌, ◌-◌, length}
use Rattle.reo_document.specs.Builder.{noted_at}
use Rattle.reo_document.proofs.builder.claim.Given as goal

abbrev pub invariant-more : goal.invariant-more
invariant-more l = (p : ℕ) → noted_at l.owners.items p ≡ noted_at l.fn.owners.items p

abbrev pub decreases-more : goal.decreases-more
decreases-more l = l.port + 1 - length l.owners.items
