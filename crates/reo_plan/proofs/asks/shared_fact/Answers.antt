use Rattle.std.proofs.Common.{sym, ap, ◌∙◌}
use Rattle.reo_plan.specs.inside.Asks.{so_in}
use Rattle.reo_plan.proofs.AskLemmas.{same_known, same_met, same_failed}
use Rattle.reo_plan.proofs.asks.shared_fact.Goals as goal

pub returns-in_ok-other-in-Known-clause-same : goal.returns-in_ok-other-in-Known-clause-same
returns-in_ok-other-in-Known-clause-same c = λ c' more e texts reading.
    let there = c.in_ok-other-in-Known in
    same_known c' c.args.own.now c.shared_slot.new.slots there.ensures.more.ordered c.in-Known.slot there.other (there.ensures.flow c') more e texts reading
    ∙ ap (so_in c' texts reading c.args.own.now) (sym c.in-Known.is)

pub returns-in_ok-other-in-Met-clause-same : goal.returns-in_ok-other-in-Met-clause-same
returns-in_ok-other-in-Met-clause-same c = λ c' more e texts reading.
    let there = c.in_ok-other-in-Met in
    same_met c' c.args.own.now c.shared_slot-in-Met.new.slots there.ensures.more.ordered c.in-Met.slot there.other (there.ensures.flow c') c.in-Met.channel more e texts reading
    ∙ ap (so_in c' texts reading c.args.own.now) (sym c.in-Met.is)

pub returns-in_ok-other-in-Failed-clause-same : goal.returns-in_ok-other-in-Failed-clause-same
returns-in_ok-other-in-Failed-clause-same c = λ c' more e texts reading.
    let there = c.in_ok-other-in-Failed in
    same_failed c' c.args.own.now c.shared_slot-in-Failed.new.slots there.ensures.more.ordered c.in-Failed.slot there.other (there.ensures.flow c') c.in-Failed.channel more e texts reading
    ∙ ap (so_in c' texts reading c.args.own.now) (sym c.in-Failed.is)
