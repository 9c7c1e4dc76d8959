use Rattle.reo_table.proofs.party_seat.PartySeat.see_got.Given as goal

abbrev pub ghosts-see_got_at-T-Told : goal.ghosts-see_got_at-T-Told
ghosts-see_got_at-T-Told a = record { setting = a.words.now.setting }

abbrev pub ghosts-see_got_at-P-Place : goal.ghosts-see_got_at-P-Place
ghosts-see_got_at-P-Place a = record { place = a.port }
