use Rattle.std.proofs.Common.{◌+◌, ◌≤◌, length, get_or, sym, ap, ◌∙◌, subst, arith}
use Rattle.std.proofs.lemmas.Option.{slice_get-get_or}
use Rattle.reo_flow.specs.Flow.{sources_of}
use Rattle.reo_plan.specs.inside.Slots.{slot_value}
use Rattle.reo_plan.specs.inside.Sides.{added, used, most, one_place}
use Rattle.reo_plan.proofs.SideLemmas.{room_for_one, written_one}
use Rattle.reo_plan.proofs.write.write.Goals as goal

pub add-requires : goal.add-requires
add-requires c =
    let value = slot_value c.args.net.now c.args.texts.now (sources_of c.args.reading.now) c.args.slots.now in
    let places = c.args.places.now in
    let n = c.loop-place.place-index in
    let p = get_or places n (0, 0) in
    subst (λ v. used c.loop-place.room c.args.side + length (one_place p.0 v) ≤ most c.loop-place.room c.args.side) (sym (c.turn_to.ensures.known ∙ ap value c.turn_to.ensures.slot))
    (room_for_one value places n p (slice_get-get_or places n (0, 0) (omega arith)) c.args.room.now c.loop-place.room c.args.side c.loop-place.invariant.1 c.requires.room)

pub loop-place-preserved : goal.loop-place-preserved
loop-place-preserved c =
    let value = slot_value c.args.net.now c.args.texts.now (sources_of c.args.reading.now) c.args.slots.now in
    let places = c.args.places.now in
    let n = c.loop-place.place-index in
    let p = get_or places n (0, 0) in (
      c.turn_to.ensures.known,
      written_one value places n p (slice_get-get_or places n (0, 0) (omega arith)) c.args.room.now c.loop-place.room c.add.new.room c.args.side c.loop-place.invariant.1
          (c.add.ensures ∙ ap (λ v. added c.loop-place.room c.args.side (one_place p.0 v)) (c.turn_to.ensures.known ∙ ap value c.turn_to.ensures.slot)),
    )
