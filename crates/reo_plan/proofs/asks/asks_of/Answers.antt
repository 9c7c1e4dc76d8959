use Rattle.std.proofs.Common.{take, sym, ◌∙◌, subst, arith}
use Rattle.std.proofs.lemmas.List.{take_all}
use Rattle.std.proofs.lemmas.Option.{slice_get-get_or}
use Rattle.reo_plan.specs.inside.Asks.{HasAsks, IsNeeds}
use Rattle.reo_plan.specs.inside.Marks.{IsMask, IsMarked}
use Rattle.reo_plan.proofs.SlotLemmas.{more_on, extends_on}
use Rattle.reo_plan.proofs.PlaceSlotLemmas.{take_more}
use Rattle.reo_plan.proofs.asks.asks_of.Goals as goal

pub loop-fact-preserved : goal.loop-fact-preserved
loop-fact-preserved c =
    let asked = c.as_slice-asked.result.now in
    let n = c.loop-fact.fact-index in
    let slots = c.add_ask.new.slots in
    let facts = c.add_ask.new.facts in
    let there = c.in_ok-add_ask.ensures in (
      more_on c.args.slots.now c.loop-fact.slots slots c.loop-fact.invariant.0 there.slots,
      extends_on c.args.facts.now c.loop-fact.facts facts c.loop-fact.invariant.1 there.facts,
      λ c'. subst (λ l. HasAsks c' slots facts c.as_slice-own.result.now l c.add_ask.new.numbers c.add_ask.new.rest) (sym (take_more asked n _ (slice_get-get_or asked n _ (omega arith))))
          (there.asks c' (take n asked) (c.loop-fact.invariant.2 c')),
      there.small c.loop-fact.invariant.3,
    )

pub returns-clause-asks : goal.returns-clause-asks
returns-clause-asks c = λ c'.
    let row = c.args.row.now in
    let asked = c.as_slice-asked.result.now in
    let n = c.loop-fact.fact-index in
    let own : HasAsks c' c.loop-fact.slots c.loop-fact.facts row.slots (take n asked) c.loop-fact.numbers c.loop-fact.rest =
    subst (λ own. HasAsks c' c.loop-fact.slots c.loop-fact.facts own (take n asked) c.loop-fact.numbers c.loop-fact.rest) c.as_slice-own.ensures (c.loop-fact.invariant.2 c') in
    record {
      has = subst (λ l. HasAsks c' c.loop-fact.slots c.loop-fact.facts row.slots l c.loop-fact.numbers c.loop-fact.rest) (take_all n asked (omega arith) ∙ c.as_slice-asked.ensures) own;
      mask = subst (λ l. IsMask l c.mask_of-mask.result) c.as_slice.ensures c.mask_of-mask.ensures.mask;
      marked = subst (λ l. IsMarked l c.mask_of-mask.result) c.as_slice.ensures c.mask_of-mask.ensures.marked;
      small = c.loop-fact.invariant.3;
      needs = subst (λ l. IsNeeds c' row.slots l c.needs_of.result) c.as_slice-asked.ensures (subst (λ own. IsNeeds c' own asked c.needs_of.result) c.as_slice-own.ensures (c.needs_of.ensures c'));
    }
