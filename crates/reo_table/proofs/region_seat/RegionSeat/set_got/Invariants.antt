use Rattle.reo_table.proofs.region_seat.RegionSeat.set_got.Given as goal

abbrev pub ghosts-set_got_at : goal.ghosts-set_got_at
ghosts-set_got_at a = record { place = a.port }
