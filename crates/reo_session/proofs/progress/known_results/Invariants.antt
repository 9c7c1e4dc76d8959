use Rattle.reo_value.specs.Code.{IsValue}
use Rattle.reo_session.proofs.ProgressLemmas.{AreFirst}
use Rattle.reo_session.proofs.progress.known_results.Given as goal

abbrev pub invariant-loop-pair : goal.invariant-loop-pair
invariant-loop-pair l = AreFirst (λ pair. IsValue pair.1) l.pairs l.pair-index
