use Rattle.std.proofs.Common.{◌≡◌, vec_len}
use Rattle.reo_fabric.specs.inside.Whole.{EachAt, IsRoomOf}
use Rattle.reo_fabric.proofs.rooms.all_rooms.Given as goal

abbrev pub invariant-loop-region : goal.invariant-loop-region
invariant-loop-region l = record {
  len : vec_len l.rooms ≡ l.region;
  made : EachAt (IsRoomOf l.fabric) l.rooms.items;
}
