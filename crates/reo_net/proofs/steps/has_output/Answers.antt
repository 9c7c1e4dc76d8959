use Rattle.std.proofs.Common.{arith, inr}
use Rattle.std.proofs.lemmas.Bool.{false≢true}
use Rattle.reo_net.proofs.NameLemmas.{name_below}
use Rattle.reo_net.proofs.steps.has_output.Goals as goal

pub returns : goal.returns
returns c =
    (λ e. absurd (false≢true e), λ at. absurd (c.loop-name.invariant at.0 (omega (arith, name_below c.args.net.now c.args.node at.0 (inr at.1))) at.1))
