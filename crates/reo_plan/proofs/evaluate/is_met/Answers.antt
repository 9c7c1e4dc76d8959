use Rattle.std.proofs.lemmas.Bool.Decides.{same_from_decides}
use Rattle.reo_flow.specs.Tests.{is_met}
use Rattle.reo_flow.proofs.TestLemmas.{guard_decides}
use Rattle.reo_plan.proofs.evaluate.is_met.Goals as goal

pub returns : goal.returns
returns c = same_from_decides c.holds.result (is_met c.args.texts.now c.args.guard.now c.args.datum) c.holds.ensures (guard_decides c.args.texts.now c.args.datum c.args.guard.now)
