use Rattle.reo_table.proofs.region_seat.RegionSeat.see_port.Given as goal

abbrev pub ghosts-see_port_at : goal.ghosts-see_port_at
ghosts-see_port_at a = record { place = a.port }
