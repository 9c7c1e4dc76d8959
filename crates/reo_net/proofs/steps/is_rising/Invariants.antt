use Rattle.std.proofs.Common.{ℕ, ◌+◌, ◌<◌, get_or, map}
use Rattle.reo_net.proofs.steps.is_rising.Given as goal

abbrev pub invariant-loop-next : goal.invariant-loop-next
invariant-loop-next l = (k : ℕ) → k + 1 < l.next → get_or (map (λ p. p.0) l.pairs) k 0 < get_or (map (λ p. p.0) l.pairs) (k + 1) 0
