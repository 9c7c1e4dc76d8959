use Rattle.reo_table.proofs.region_seat.RegionSeat.clock.Given as goal

abbrev pub ghosts-clock_told : goal.ghosts-clock_told
ghosts-clock_told a = record { setting = a.words.now.setting }
