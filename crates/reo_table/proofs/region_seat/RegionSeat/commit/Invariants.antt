use Rattle.reo_table.proofs.region_seat.RegionSeat.commit.Given as goal

abbrev pub ghosts-commit_said-T-Told : goal.ghosts-commit_said-T-Told
ghosts-commit_said-T-Told a = record { setting = a.words.now.setting }

abbrev pub ghosts-commit_said-E-Said : goal.ghosts-commit_said-E-Said
ghosts-commit_said-E-Said a = record { entry = a.entry.now }
