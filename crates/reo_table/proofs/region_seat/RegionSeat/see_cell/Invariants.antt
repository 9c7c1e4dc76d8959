use Rattle.reo_table.proofs.region_seat.RegionSeat.see_cell.Given as goal

abbrev pub ghosts-see_cell_at-T-Told : goal.ghosts-see_cell_at-T-Told
ghosts-see_cell_at-T-Told a = record { setting = a.words.now.setting }

abbrev pub ghosts-see_cell_at-P-Place : goal.ghosts-see_cell_at-P-Place
ghosts-see_cell_at-P-Place a = record { place = a.cell }
