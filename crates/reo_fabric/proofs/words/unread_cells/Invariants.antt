use Rattle.std.proofs.Common.{◌≡◌, ◌||◌, map, nat_eq, take}
use Rattle.reo_fabric.specs.Reading.{places_of}
use Rattle.reo_fabric.proofs.words.unread_cells.Given as goal

abbrev pub invariant-loop-place : goal.invariant-loop-place
invariant-loop-place l = map (λ p. p.0) l.words.items ≡ places_of (λ cell. nat_eq cell.filler l.region || nat_eq cell.taker l.region) 0 (take l.place l.cells)
