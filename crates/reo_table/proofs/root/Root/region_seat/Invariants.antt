use Rattle.reo_table.proofs.root.Root.region_seat.Given as goal

abbrev pub ghosts-seat_of : goal.ghosts-seat_of
ghosts-seat_of a = record { place = a.region }
