use Rattle.reo_table.proofs.party_seat.PartySeat.clear.Given as goal

abbrev pub ghosts-clear_at : goal.ghosts-clear_at
ghosts-clear_at a = record { place = a.port }
