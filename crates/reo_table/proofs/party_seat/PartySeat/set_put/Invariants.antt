use Rattle.reo_table.proofs.party_seat.PartySeat.set_put.Given as goal

abbrev pub ghosts-set_put_at-P-Place : goal.ghosts-set_put_at-P-Place
ghosts-set_put_at-P-Place a = record { place = a.port }

abbrev pub ghosts-set_put_at-D-Given : goal.ghosts-set_put_at-D-Given
ghosts-set_put_at-D-Given a = record { value = a.value }
