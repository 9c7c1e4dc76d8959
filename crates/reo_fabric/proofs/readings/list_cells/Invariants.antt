use Rattle.std.proofs.Common.{◌≡◌, ℕ, ◌||◌, List, [], length, nat_eq, take}
use Rattle.reo_fabric.specs.Reading.{places_of}
use Rattle.reo_fabric.specs.inside.Readings.{AreReadings}
use Rattle.reo_fabric.proofs.readings.list_cells.Given as goal

abbrev pub invariant-loop-place : goal.invariant-loop-place
invariant-loop-place l = record {
  len : length l.readings.items ≡ length l.initial.readings.items;
  are : (regions : ℕ) (ports : ℕ → List ℕ) → AreReadings regions (λ region. []) ports l.initial.readings.items
      → AreReadings regions (λ region. places_of (λ cell. nat_eq cell.filler region || nat_eq cell.taker region) 0 (take l.place l.cells)) ports l.readings.items;
}
