use Rattle.reo_table.proofs.party_seat.PartySeat.see_state.Given as goal

abbrev pub ghosts-see_state_at : goal.ghosts-see_state_at
ghosts-see_state_at a = record { place = a.port }
