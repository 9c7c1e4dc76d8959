use Rattle.std.proofs.Common.{sym, ap, ◌∙◌}
use Rattle.reo_plan.specs.inside.Asks.{so_in}
use Rattle.reo_plan.specs.inside.Needs.{some_offer}
use Rattle.reo_plan.proofs.NeedLemmas.{offer_in, datum_offered}
use Rattle.reo_plan.proofs.needs.with_need.Goals as goal

pub returns-in-Offered : goal.returns-in-Offered
returns-in-Offered c = λ c' texts reading word misses so apart.
    c.with_bit.ensures.misses (some_offer reading.ports) word misses (offer_in reading.ports c.in-Offered.port (sym (ap (so_in c' texts reading c.args.slots.now) c.in-Offered.is) ∙ so)) apart

pub returns-in-Port : goal.returns-in-Port
returns-in-Port c = λ c' texts reading word misses so apart.
    let slots = c.args.slots.now in
    let offered = datum_offered c' texts reading slots c.in-Known.slot c.in-Port.port (sym c.giver_at.ensures ∙ c.in-Port.is) (sym (ap (so_in c' texts reading slots) c.in-Known.is) ∙ so) in
    c.with_bit-in-Port.ensures.misses (some_offer reading.ports) word misses (offer_in reading.ports c.in-Port.port offered) apart
