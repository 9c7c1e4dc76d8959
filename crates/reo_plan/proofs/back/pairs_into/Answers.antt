use Rattle.std.proofs.Common.{◌++◌, take, get_or, sym, ap, ◌∙◌, arith}
use Rattle.std.proofs.lemmas.Option.{slice_get-get_or}
use Rattle.reo_flow.specs.Flow.{sources_of}
use Rattle.reo_plan.specs.inside.Slots.{slot_value}
use Rattle.reo_plan.specs.inside.Rows.{values_at}
use Rattle.reo_plan.specs.inside.Back.{reading_back}
use Rattle.reo_plan.specs.inside.Sides.{one_place}
use Rattle.reo_plan.proofs.SideLemmas.{values_more}
use Rattle.reo_plan.proofs.back.pairs_into.Goals as goal

pub loop-place-preserved : goal.loop-place-preserved
loop-place-preserved c =
    let value = slot_value c.args.net.now c.args.texts.now (sources_of (reading_back c.args.entry.now)) c.args.slots.now in
    let named = c.args.named.now in
    let n = c.loop-place.place-index in
    let p = get_or named n (0, 0) in (
      c.turn_to.ensures.known,
      c.in_ok-add_pair.ensures ∙ ap (λ l. l ++ one_place p.0 c.turn_to.new.known.value) c.loop-place.invariant.1
          ∙ ap (λ o. values_at value (take n named) ++ one_place p.0 o) (c.turn_to.ensures.known ∙ ap value c.turn_to.ensures.slot)
          ∙ sym (values_more value named n p (slice_get-get_or named n (0, 0) (omega arith))),
    )
