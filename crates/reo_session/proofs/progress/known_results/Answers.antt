use Rattle.std.proofs.Common.{arith}
use Rattle.std.proofs.lemmas.Grind.{common_steps}
use Rattle.reo_value.specs.Code.{IsValue}
use Rattle.reo_session.proofs.ProgressLemmas.{first_more, first_all}
use Rattle.reo_session.proofs.progress.known_results.Goals as goal

pub loop-pair-preserved : goal.loop-pair-preserved
loop-pair-preserved c = first_more (λ pair. IsValue pair.1) c.args.pairs.now c.loop-pair.pair-index c.pair-item.result c.loop-pair.invariant c.pair-item.is c.known.ensures

pub returns : goal.returns
returns c = first_all (λ pair. IsValue pair.1) c.args.pairs.now c.loop-pair.pair-index c.loop-pair.invariant (grind (arith, common_steps, c.loop-pair-test.false))
