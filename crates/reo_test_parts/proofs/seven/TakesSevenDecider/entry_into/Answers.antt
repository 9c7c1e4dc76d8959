use Rattle.std.proofs.Common.{◌<◌, ◌≤◌, length, arith, sym, subst}
use Rattle.reo_fabric.specs.Room.{RoomState}
use Rattle.reo_test_parts.specs.Seven.{the_entry}
use Rattle.reo_test_parts.proofs.SevenLemmas.{chosen_is}
use Rattle.reo_test_parts.proofs.seven.TakesSevenDecider.entry_into.Goals as goal

pub take-requires : goal.take-requires
take-requires c =
    let room = c.requires.room the_entry (chosen_is _ _ _ c.requires.chosen) in
    subst (λ (r : RoomState). length r.entry.takes < r.most_takes) (sym c.begin.ensures) (omega (arith, room.takes))

pub get-requires : goal.get-requires
get-requires c =
    let room = c.requires.room the_entry (chosen_is _ _ _ c.requires.chosen) in
    subst (λ (r : RoomState). length r.entry.gets < r.most_gets) (sym c.take.ensures)
    (subst (λ (r : RoomState). length r.entry.gets < r.most_gets) (sym c.begin.ensures) (omega (arith, room.gets)))
