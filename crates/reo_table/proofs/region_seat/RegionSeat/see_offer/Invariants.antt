use Rattle.reo_table.proofs.region_seat.RegionSeat.see_offer.Given as goal

abbrev pub ghosts-see_offer_at : goal.ghosts-see_offer_at
ghosts-see_offer_at a = record { place = a.port }
