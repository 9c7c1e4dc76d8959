use Rattle.reo_table.proofs.region_seat.RegionSeat.set_cell.Given as goal

abbrev pub ghosts-set_cell_at : goal.ghosts-set_cell_at
ghosts-set_cell_at a = record { place = a.cell }
