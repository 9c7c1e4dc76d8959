use Rattle.std.proofs.Common.{sym, ap, ◌∙◌}
use Rattle.std.proofs.lemmas.Bool.{OnTrue_from}
use Rattle.reo_plan.specs.inside.Asks.{so_in}
use Rattle.reo_plan.proofs.NeedLemmas.{datum_offered}
use Rattle.reo_plan.proofs.asks.is_told.Goals as goal

pub returns-in-Port : goal.returns-in-Port
returns-in-Port c = OnTrue_from c.is_same.result _ (λ same. λ c' texts reading so.
    let slots = c.args.slots.now in
    ap (so_in c' texts reading slots) (c.is_same.ensures.0 same)
    ∙ datum_offered c' texts reading slots c.in-Known.slot c.in-Port.port (sym c.giver_at.ensures ∙ c.in-Port.is) (sym (ap (so_in c' texts reading slots) c.in-Known.is) ∙ so))
