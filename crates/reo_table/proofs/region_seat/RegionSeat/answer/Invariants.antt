use Rattle.reo_table.proofs.region_seat.RegionSeat.answer.Given as goal

abbrev pub ghosts-answer_at : goal.ghosts-answer_at
ghosts-answer_at a = record { place = a.port }
