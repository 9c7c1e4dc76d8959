use Rattle.std.proofs.Common.{take, sym, subst, arith}
use Rattle.std.proofs.lemmas.List.{take_all}
use Rattle.std.proofs.lemmas.Option.{slice_get-get_or}
use Rattle.reo_plan.specs.inside.Asks.{IsNeeds}
use Rattle.reo_plan.proofs.NeedLemmas.{needs_more}
use Rattle.reo_plan.proofs.PlaceSlotLemmas.{take_more}
use Rattle.reo_plan.proofs.needs.needs_of.Goals as goal

pub loop-fact-preserved : goal.loop-fact-preserved
loop-fact-preserved c = λ c'.
    let slots = c.args.slots.now in
    let facts = c.args.facts.now in
    let n = c.loop-fact.fact-index in
    subst (λ l. IsNeeds c' slots l c.with_need-needs.result) (sym (take_more facts n _ (slice_get-get_or facts n _ (omega arith))))
    (needs_more c' slots (take n facts) _ c.loop-fact.needs c.with_need-needs.result (c.loop-fact.invariant c') (c.with_need-needs.ensures c'))

pub returns : goal.returns
returns c = λ c'. subst (λ l. IsNeeds c' c.args.slots.now l c.loop-fact.needs) (take_all c.loop-fact.fact-index c.args.facts.now (omega arith)) (c.loop-fact.invariant c')
