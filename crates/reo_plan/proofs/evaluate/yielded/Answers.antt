use Rattle.std.proofs.Common.{Some, ap, ◌∙◌}
use Rattle.reo_plan.proofs.EvaluateLemmas.{yielded_some, yielded_none}
use Rattle.reo_plan.proofs.evaluate.yielded.Goals as goal

pub returns-in-Some : goal.returns-in-Some
returns-in-Some c =
    ap Some c.known.ensures.same ∙ yielded_some c.args.texts.now c.args.fun.now c.args.datum c.apply.result c.apply.ensures.exact c.in-Some.value c.in-Some.is c.known.ensures.value

pub returns-in-None : goal.returns-in-None
returns-in-None c = yielded_none c.args.texts.now c.args.fun.now c.args.datum c.apply.result c.apply.ensures.exact c.in-None.is
