use Rattle.std.proofs.Common.{◌≡◌, ℕ, List, [], length, nat_eq, take}
use Rattle.reo_fabric.specs.Reading.{places_of}
use Rattle.reo_fabric.specs.inside.Readings.{AreReadings}
use Rattle.reo_fabric.proofs.readings.list_ports.Given as goal

abbrev pub invariant-loop-place : goal.invariant-loop-place
invariant-loop-place l = record {
  len : length l.readings.items ≡ length l.initial.readings.items;
  are : (regions : ℕ) (cells : ℕ → List ℕ) → AreReadings regions cells (λ region. []) l.initial.readings.items
      → AreReadings regions cells (λ region. places_of (λ port. nat_eq port.region region) 0 (take l.place l.ports)) l.readings.items;
}
