use Rattle.std.proofs.Common.{◌≡◌, ℕ, ◌+◌, ◌-◌, length}
use Rattle.reo_document.specs.Builder.{noted_at}
use Rattle.reo_document.proofs.builder.claim_port.Given as goal

abbrev pub invariant-more : goal.invariant-more
invariant-more l = (n : ℕ) → noted_at l.ports.items n ≡ noted_at l.fn.ports.items n

abbrev pub decreases-more : goal.decreases-more
decreases-more l = l.node + 1 - length l.ports.items
