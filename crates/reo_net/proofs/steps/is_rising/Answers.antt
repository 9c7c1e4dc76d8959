use Rattle.std.proofs.lemmas.Bool.{false≢true}
use Rattle.reo_net.proofs.StepLemmas.{rising_more, not_rising}
use Rattle.reo_net.proofs.steps.is_rising.Goals as goal

pub returns-then-pairs-next : goal.returns-then-pairs-next
returns-then-pairs-next c =
    (λ e. absurd (false≢true e), λ rising. absurd (not_rising c.args.pairs.now c.loop-next.next c.index-pairs-next-in-loop-next.result c.index-pairs-next.result c.loop-next.auto.next c.loop-next-test.true c.if-pairs-next.true rising))

pub loop-next-preserved : goal.loop-next-preserved
loop-next-preserved c =
    rising_more c.args.pairs.now c.loop-next.next c.index-pairs-next-in-loop-next.result c.index-pairs-next.result c.loop-next.auto.next c.loop-next-test.true c.if-pairs-next.false c.loop-next.invariant
