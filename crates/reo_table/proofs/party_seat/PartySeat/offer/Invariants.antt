use Rattle.reo_table.proofs.party_seat.PartySeat.offer.Given as goal

abbrev pub ghosts-offer_at : goal.ghosts-offer_at
ghosts-offer_at a = record { place = a.port }
