use Rattle.reo_table.proofs.root.Root.party_seat.Given as goal

abbrev pub ghosts-party_seat_of : goal.ghosts-party_seat_of
ghosts-party_seat_of a = record { place = a.party }
