use Rattle.std.proofs.Common.{arith, List, subst, sym, ◌∙◌}
use Rattle.reo_fabric.specs.Room.{RoomState}
use Rattle.reo_fabric.specs.inside.Whole.{EachAt, IsRoomOf}
use Rattle.reo_fabric.proofs.EngineLemmas.{each_more, new_room, counted_room}
use Rattle.reo_fabric.proofs.rooms.all_rooms.Goals as goal

pub loop-region-preserved : goal.loop-region-preserved
loop-region-preserved c =
    let f = c.args.fabric.now in
    let is = counted_room f _ _ _ c.as_slice.ensures c.as_slice-2.ensures c.as_slice-3.ensures _ _ _ c.in_ok-takes.ensures c.in_ok-fills.ensures c.in_ok-ports.ensures c.loop-region.region _ _ _ c.loop-region-test.true
    c.index.ensures c.index-in-loop-region.ensures c.index-in-loop-region-2.ensures in
    record {
      len = omega (arith, c.in_ok-push.ensures.len, c.loop-region.invariant.len);
      made = subst (λ (rooms : List RoomState). EachAt (IsRoomOf f) rooms) (sym c.in_ok-push.ensures.items)
          (each_more (IsRoomOf f) c.loop-region.rooms.items c.loop-region.region _ (omega (arith, c.loop-region.invariant.len)) (new_room f c.loop-region.region c.in_ok-with_most.field-0 (c.in_ok-with_most.ensures ∙ is)) c.loop-region.invariant.made);
    }
